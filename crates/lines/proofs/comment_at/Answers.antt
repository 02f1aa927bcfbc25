use Rattle.std.proofs.Common.{rules, ◌≡◌, refl, sym, subst, ◌∙◌, arith, ℕ, length, get_or, true, false}
use Rattle.utf8.specs.Part.{part}
use Rattle.refusal.specs.Base.{ch}
use Rattle.lines.specs.Places.{Lacks}
use Rattle.lines.specs.Lines.{strip_comment, uncommented, starts_comment}
use Rattle.lines.proofs.Laws.{strip-none, comment-none, comment-here, comment-on}
use Rattle.lines.proofs.comment_at.Goals as goal

pub returns-then-find_byte-to : goal.returns-then-find_byte-to
returns-then-find_byte-to c =
    let a = c.args in
    let f = c.find_byte in
    let none : Lacks a.text.now a.from a.to (ch "#") = subst (λ (e : ℕ). Lacks a.text.now a.from e (ch "#")) c.if-find_byte-to.true f.ensures.place.2 in
    (strip-none a.text.now a.from a.to (search rules) (search rules) none, search rules)

pub loop-i-init : goal.loop-i-init
unfolding strip_comment
loop-i-init c = (search rules, search rules, refl)

pub loop-i-preserved : goal.loop-i-preserved
loop-i-preserved c =
    let a = c.args in
    let l = c.loop-i in
    let s : starts_comment l.place (get_or a.text.now l.i 0) ≡ false = sym c.starts_comment.ensures ∙ c.if-starts_comment.false in
    let e = comment-on a.text.now a.to l.i (search rules) (search rules) l.place s in
    (search rules, search rules, rw c.place_after-place.ensures (omega arith))

pub returns : goal.returns
returns c =
    let a = c.args in
    let l = c.loop-i in
    let h : l.i ≡ a.to = omega arith in
    let e : length (uncommented l.place (part a.text.now l.i a.to)) ≡ 0 = rw h (comment-none a.text.now a.to l.place) in
    (omega arith, search rules)

pub returns-then-starts_comment : goal.returns-then-starts_comment
returns-then-starts_comment c =
    let a = c.args in
    let l = c.loop-i in
    let s : starts_comment l.place (get_or a.text.now l.i 0) ≡ true = sym c.starts_comment.ensures ∙ c.if-starts_comment.true in
    let e = comment-here a.text.now a.to l.i (search rules) (search rules) l.place s in
    (omega arith, search rules)
