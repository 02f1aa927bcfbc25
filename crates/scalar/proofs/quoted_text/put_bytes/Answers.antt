use Rattle.std.proofs.Common.{ℕ, ◌+◌, refl, sym, ap, ◌∙◌, length, arith}
use Rattle.std.proofs.lemmas.List.Edits.{sets}
use Rattle.item.proofs.Parts.{put_part}
use Rattle.scalar.proofs.quoted_text.put_bytes.Goals as goal

pub returns : goal.returns
returns c = λ cap t rest e h.
    let w = c.args.writer.now in
    let q = c.unquote.ensures cap t rest e (omega (arith, h, c.requires)) in
    record {
      same_reference = refl;
      out = put_part w.out.now c.unquote.new.out w.used _ (omega (arith, h, ap length q)) (omega (arith, h, ap length q, c.requires, w.within)) ∙ ap (sets w.out.now w.used) q;
      used = ap (λ (k : ℕ). w.used + k) (sym h);
    }
