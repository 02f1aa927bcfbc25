-- The walk along the top keys. Assumes nothing.
use Rattle.std.specs.Prelude.{if◌then◌else◌}
use Rattle.std.proofs.Common.{◌≡◌, sym, ap, ◌∙◌, ℕ, ◌-◌, ◌≤◌, List, Bool, true, false, take, drop}
use Rattle.refusal.specs.Base.{one_of}
use Rattle.item.specs.Tree.{Entries}
use Rattle.entries.specs.Entries.{Lies}
use Rattle.entries.specs.declared.Pair.{Pair}
use Rattle.entries.proofs.Walking.{no_more, Turn}
use Rattle.meaning.specs.Meanings.{top_keys, known_keys, refuse}
use Rattle.top.specs.Contract.{KnownKeys}

-- what is left is known where all is
pub record KnownRest (s : List ℕ) (to at : ℕ) (es : Entries) : Type 0 where
  pub rest : Entries
  pub lies : Lies s at to rest
  pub is : known_keys es ≡ known_keys rest

module _ {s : List ℕ} {to at : ℕ} {p : Pair} {es : Entries} (k : KnownRest s to at es) (t : Turn s at to k.rest p) where
  here : {b : Bool} → b ≡ one_of (take (p.end - p.start) (drop p.start s)) top_keys → known_keys es ≡ (if b then known_keys t.entry.others else refuse 22)
  unfolding known_keys
  here e = k.is ∙ ap known_keys t.entry.is ∙ rw (ap (λ (l : List ℕ). one_of l top_keys) (sym t.key_is) ∙ sym e)

  pub known-false : false ≡ one_of (take (p.end - p.start) (drop p.start s)) top_keys → KnownKeys es false
  known-false e = here e

  pub known_on : true ≡ one_of (take (p.end - p.start) (drop p.start s)) top_keys → KnownRest s to p.next es
  known_on e = record { rest = t.entry.others; lies = t.behind; is = here e }

pub known-done : {s : List ℕ} {to at : ℕ} {es : Entries} → KnownRest s to at es → to ≤ at → KnownKeys es true
unfolding known_keys
known-done k m = k.is ∙ ap known_keys (no_more k.rest m k.lies)
