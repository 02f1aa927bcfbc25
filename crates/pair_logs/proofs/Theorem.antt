-- What is promised of every pairing. Assumes nothing.
use Rattle.std.proofs.Common.{◌≡◌, ℕ, List, true}
use Rattle.refusal.specs.Base.{good, ◌>>◌}
use Rattle.refusal.proofs.Tools.{good-inj, bound, bound', ensured}
use Rattle.pair_logs.specs.PairLogs.{Pairing, pairing, never_falls, listed, pair_logs, Best}
use Rattle.pair_logs.proofs.Steps.{placed}
use Rattle.pair_logs.proofs.Parts.{hammers-parted, sounds-parted, kept}
use Rattle.pair_logs.proofs.Exchange.{at-most-these}

pub best : (hammers sounds : List ℕ) → never_falls 0 hammers ≡ true → never_falls 0 sounds ≡ true → Best hammers sounds (pairing hammers sounds)
best hammers sounds h s =
    let w = placed hammers sounds h s in
    record { of_hammers = hammers-parted w; of_sounds = sounds-parted w; keeps = kept w; most = at-most-these h s w }

pub pairs-best : (hammers sounds pairs lone_hammers lone_sounds : List ℕ) (r : Pairing) → pair_logs hammers sounds pairs lone_hammers lone_sounds ≡ good r → Best hammers sounds r
unfolding pair_logs listed ◌>>◌
pairs-best hammers sounds pairs lone_hammers lone_sounds r e =
    bound _ _ r e λ x tests written.
    bound _ _ x tests λ y before s.
    bound' _ _ y before λ h.
    bound' _ _ r written λ same.
    rw (good-inj _ r same) at (best hammers sounds (ensured _ 63 0 0 y h) (ensured _ 63 0 0 x s))
