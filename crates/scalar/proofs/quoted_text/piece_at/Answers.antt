-- By the quote. Assumes nothing.
use Rattle.scalar.proofs.quoted_text.piece_at.Goals as goal

pub returns-in-Single : goal.returns-in-Single
returns-in-Single c = rw c.in-Single.is c.single_piece.ensures

pub returns-in-Double : goal.returns-in-Double
returns-in-Double c = rw c.in-Double.is c.double_piece.ensures
