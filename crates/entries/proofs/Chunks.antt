-- Entries in chunks: the keys of a chunk, in their order, and the entries behind it. Assumes nothing.
use Rattle.std.proofs.Common.{◌≡◌, refl, sym, ap, ◌∙◌, subst, ⊎_elim, ℕ, ◌+◌, ◌-◌, ◌≤◌, ◌<◌, ◌^◌, arith, List, Bool, true, false, ◌||◌, take, drop}
use Rattle.std.proofs.lemmas.Bool.{false≢true, false_from_ne_true, or_cases, or_left, or_right}
use Rattle.refusal.specs.Base.{same}
use Rattle.item.specs.Tree.{Yaml, Entries, done, pair, has_key}
use Rattle.item.proofs.Same.{same_refl, same-eq}
use Rattle.entries.specs.declared.Pair.{Pair}
use Rattle.entries.specs.Entries.{Lies, key_twice}
use Rattle.entries.specs.declared.sorted.KeyPlace.{KeyPlace}
use Rattle.entries.specs.Contract.{key_of, key_in, Held, Gap, Inserted, LeftOver}
use Rattle.entries.proofs.Walking.{Turn, no_more}
use Rattle.entries.proofs.Runs.{each_on, held-here, held_on, not-held}

-- ---- entries that share a key with others

abbrev meets : Entries → Entries → Bool
meets done b = false
meets (pair k v a) b = has_key k b || meets a b

meets-none : (a : Entries) → meets a done ≡ false
unfolding has_key
meets-none done = refl
meets-none (pair k v a) = meets-none a

module _ (k : List ℕ) (v : Yaml) (b : Entries) where
  meets-there : (a : Entries) → has_key k a ≡ true → meets a (pair k v b) ≡ true
  unfolding has_key
  meets-there done h = absurd (false≢true h)
  meets-there (pair j u a) h = ⊎_elim
      (λ t. or_left (same k j || has_key j b) _ (or_left (same k j) (has_key j b) (rw (same-eq j k t) (same_refl k))))
      (λ f. or_right (same k j || has_key j b) _ (meets-there a f))
      (or_cases (same j k) (has_key k a) h)

  meets_on : (a : Entries) → (has_key k a ≡ true → ⊥) → meets a (pair k v b) ≡ meets a b
  unfolding has_key
  meets_on done n = refl
  meets_on (pair j u a) n =
      let e : same k j ≡ false = false_from_ne_true _ λ t. n (or_left (same j k) (has_key k a) (rw (same-eq k j t) (same_refl j))) in
      rw (e, meets_on a (λ h. n (or_right (same j k) (has_key k a) h)))

swap : (a b c : Bool) → a || (b || c) ≡ (b || a) || c
swap true true c = refl
swap true false c = refl
swap false true c = refl
swap false false c = refl

-- ---- the walk

-- the keys of the run are those of the chunk; the entries behind it, and those of them that are left to look up, decide as all do
pub record Chunked (s : List ℕ) (run : List KeyPlace) (n to behind at : ℕ) (es : Entries) : Type 0 where
  pub chunk : Entries
  pub others : Entries
  pub rest : Entries
  pub others_lie : Lies s behind to others
  pub lies : Lies s at to rest
  pub whole : key_twice es ≡ meets chunk rest || key_twice others
  pub filling : n < 2 ^ 11 → others ≡ rest
  pub held : (k : List ℕ) → has_key k chunk ≡ true → Held s run n k
  pub kept : (i : ℕ) → i < n → has_key (key_in s run i) chunk ≡ true

pub chunked-none : {s : List ℕ} {from to : ℕ} (run : List KeyPlace) (es : Entries) → Lies s from to es → Chunked s run 0 to from from es
unfolding has_key
chunked-none run es h = record {
  chunk = done;
  others = es;
  rest = es;
  others_lie = h;
  lies = h;
  whole = refl;
  filling = λ _. refl;
  held = λ k e. absurd (false≢true e);
  kept = λ i l. absurd (omega arith);
}

module _ {s : List ℕ} {run : List KeyPlace} {n to behind at : ℕ} {es : Entries} (w : Chunked s run n to behind at es) where
  pub chunked-all : to ≤ at → LeftOver s to behind es
  chunked-all h = record {
    rest = w.others;
    lies = w.others_lie;
    whole = w.whole ∙ ap (λ (e : Entries). meets w.chunk e || key_twice w.others) (no_more w.rest h w.lies) ∙ ap (λ (b : Bool). b || key_twice w.others) (meets-none w.chunk);
  }

  module _ {p : Pair} (t : Turn s at to w.rest p) where
    abbrev key : List ℕ
    key = take (p.end - p.start) (drop p.start s)

    abbrev more : Entries
    more = t.entry.others

    opened : key_twice es ≡ meets w.chunk (pair key t.entry.v more) || key_twice w.others
    opened = w.whole ∙ ap (λ (e : Entries). meets w.chunk e || key_twice w.others) (t.entry.is ∙ ap (λ (k : List ℕ). pair k t.entry.v more) (sym t.key_is))

    pub chunked-twice : Held s run n key → key_twice es ≡ true
    chunked-twice h =
        let e : has_key key w.chunk ≡ true = subst (λ (k : List ℕ). has_key k w.chunk ≡ true) h.is (w.kept h.index h.below) in
        opened ∙ ap (λ (b : Bool). b || key_twice w.others) (meets-there key t.entry.v more w.chunk e)

    module _ {index : ℕ} (g : Gap s run n key index) where
      passed : key_twice es ≡ meets w.chunk more || key_twice w.others
      passed = opened ∙ ap (λ (b : Bool). b || key_twice w.others) (meets_on key t.entry.v more w.chunk (λ h. not-held g (w.held key h)))

      pub chunked-past : 2 ^ 11 ≤ n → Chunked s run n to behind p.next es
      chunked-past h = record {
        chunk = w.chunk;
        others = w.others;
        rest = more;
        others_lie = w.others_lie;
        lies = t.behind;
        whole = passed;
        filling = λ l. absurd (omega arith);
        held = w.held;
        kept = w.kept;
      }

      pub chunked-on : {new : List KeyPlace} {place : KeyPlace} → n < 2 ^ 11 → Inserted run new n index place → key_of s place ≡ key → Chunked s new (n + 1) to p.next p.next es
      unfolding has_key key_twice
      chunked-on {new} {place} h p e = record {
        chunk = pair key t.entry.v w.chunk;
        others = more;
        rest = more;
        others_lie = t.behind;
        lies = t.behind;
        whole = passed
            ∙ ap (λ (o : Entries). meets w.chunk more || key_twice o) (w.filling h ∙ t.entry.is ∙ ap (λ (k : List ℕ). pair k t.entry.v more) (sym t.key_is))
            ∙ swap (meets w.chunk more) (has_key key more) (key_twice more);
        filling = λ _. refl;
        held = λ k i. ⊎_elim (λ q. subst (Held s new (n + 1)) (e ∙ same-eq key k q) (held-here p g.within s))
            (λ q. held_on p g.within (w.held k q)) (or_cases (same key k) (has_key k w.chunk) i);
        kept = each_on p g.within (λ (x : KeyPlace). has_key (key_of s x) (pair key t.entry.v w.chunk) ≡ true)
            (or_left (same key (key_of s place)) _ (rw e (same_refl key)))
            (λ i l. or_right (same key (key_in s run i)) _ (w.kept i l));
      }
