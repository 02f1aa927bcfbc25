use Rattle.std.proofs.Common.{◌≡◌, refl, sym, ap, arith, ℕ, ◌+◌, ◌-◌, ◌≤◌, length, take, drop, replicate, length-drop, length-take-le}
use Rattle.std.proofs.Math.ListN.{length-replicate}
use Rattle.item.proofs.Parts.{put_part}
use Rattle.writer.proofs.Writer.fill.Goals as goal

pub returns : goal.returns
returns c =
    let a = c.args in
    let w = a.self.now in
    let room : w.used + a.count ≤ length w.out.now = omega (arith, c.requires, w.within) in
    let many : w.used + a.count - w.used ≡ a.count = omega arith in
    let part : length (take a.count (drop w.used w.out.now)) ≡ a.count = length-take-le a.count _ (omega (arith, length-drop w.used w.out.now)) in
    let filled : c.fill.new.self ≡ replicate a.count a.byte = rw (many, part) at (c.fill.ensures.after (λ y e. e)) in
    record {
      same_reference = refl;
      out = rw (many, filled) (put_part w.out.now (replicate a.count a.byte) w.used a.count (sym (length-replicate a.count a.byte)) room);
      used = ap (λ (m : ℕ). w.used + m) (sym (length-replicate a.count a.byte));
    }
