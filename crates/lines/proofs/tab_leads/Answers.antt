-- A tab stands in the leading white space where a search of that part finds one. Assumes nothing.
use Rattle.std.proofs.Common.{rules, sym, ap, ◌∙◌, List, ℕ, ◌+◌, ◌≤◌, arith}
use Rattle.utf8.specs.Part.{part}
use Rattle.utf8.specs.White.{leading}
use Rattle.utf8.proofs.Laws.{part-take}
use Rattle.lines.specs.Lines.{has_tab, tabbed}
use Rattle.lines.proofs.Laws.{tab-search}
use Rattle.lines.proofs.tab_leads.Goals as goal

pub returns : goal.returns
unfolding tabbed
returns c =
    let a = c.args in
    let t = c.trim_start-end in
    let f = c.find_byte in
    let s : List ℕ = a.text.now in
    let fits : a.from + leading (part s a.from a.to) ≤ a.to = omega (arith, t.ensures.value, t.ensures.within) in
    tab-search s a.from t.result f.result f.ensures.place.0 f.ensures.place.1 (search rules) f.ensures.place.2 f.ensures.found
    ∙ ap (λ (n : ℕ). has_tab (part s a.from n)) t.ensures.value ∙ ap has_tab (sym (part-take s a.from a.to (leading (part s a.from a.to)) fits))
