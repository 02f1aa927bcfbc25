-- Keys that stand twice, of one class and of all; a walk along entries that looks for them. Assumes nothing.
use Rattle.std.proofs.Common.{◌≡◌, refl, sym, ap, ◌∙◌, subst, ◌⊎◌, inl, inr, ⊎_elim, ℕ, ◌+◌, ◌*◌, ◌/◌, ◌%◌, ◌≤◌, ◌<◌, ◌^◌, add-one, arith, List, ◌++◌, append_assoc, append-nil, Bool, true, false, ◌&&◌, ◌||◌, bit_and, length, drop, get_or, length-append, drop_of_length-le, drop_at, drop-drop, drop-cons, eq-eqb, eqb-true, eqb}
use Rattle.std.proofs.lemmas.Bool.{false≢true, eqb-false, false_from_ne_true, or_cases, or_left, or_right, and_from, or_parts, and_parts, both_ways}
use Rattle.std.proofs.lemmas.Nat.{and_le_r}
use Rattle.refusal.specs.Base.{same}
use Rattle.item.specs.Tree.{Yaml, Entries, done, pair, add, has_key}
use Rattle.item.specs.Encode.{item, encode}
use Rattle.item.proofs.Joined.{◌⋈◌, has-add, add-more, none_more}
use Rattle.item.proofs.Same.{same_refl, same-eq}
use Rattle.entries.specs.declared.Pair.{Pair}
use Rattle.entries.specs.Entries.{Stands, Lies, key_twice}
use Rattle.entries.specs.Contract.{hash_from, hash_of, Has, twice_in, of_class, LeftOver}
use Rattle.entries.proofs.Standing.{stands-left, stands-is, stands_at}
use Rattle.entries.proofs.Walking.{Turn, no_more}

-- ---- the hash

module _ (key : List ℕ) (h i : ℕ) where
  pub hash_on : i < length key → hash_from h (drop i key) ≡ hash_from ((h + get_or key i 0 + 1) * 16777619 % 2 ^ 32) (drop (i + 1) key)
  unfolding hash_from
  hash_on n = ap (hash_from h) (drop-cons key i 0 n) ∙ ap (λ (j : ℕ). hash_from ((h + get_or key i 0 + 1) * 16777619 % 2 ^ 32) (drop j key)) (sym (add-one i))

  pub hash_end : length key ≤ i → hash_from h (drop i key) ≡ h
  unfolding hash_from
  hash_end n = rw (drop_of_length-le key {i = i} n)

-- ---- entries, and one more

-- a key of those is one of them, or the one more
has-one : (es : Entries) (k j : List ℕ) (v : Yaml) → has_key j (add es k v) ≡ true → (k ≡ j) ⊎ (has_key j es ≡ true)
has-one es k j v e = ⊎_elim inr (λ t. inl (same-eq k j t)) (or_cases (has_key j es) (same k j) (sym (has-add es k j v) ∙ e))

has_join : (a : Entries) (k : List ℕ) (v : Yaml) (b : Entries) → has_key k (a ⋈ pair k v b) ≡ true
unfolding has_key same ◌⋈◌
has_join done k v b = or_left (same k k) (has_key k b) (same_refl k)
has_join (pair j u a) k v b = or_right (same j k) (has_key k (a ⋈ pair k v b)) (has_join a k v b)

pub add-bytes : (es : Entries) (k : List ℕ) (v : Yaml) → encode (add es k v) ≡ encode es ++ (item 3 k ++ encode v)
unfolding encode add
add-bytes done k v = ap (λ (l : List ℕ). item 3 k ++ l) (append-nil (encode v))
add-bytes (pair j u es) k v =
    ap (λ (l : List ℕ). item 3 j ++ (encode u ++ l)) (add-bytes es k v)
    ∙ ap (λ (l : List ℕ). item 3 j ++ l) (sym (append_assoc (encode u) (encode es) (item 3 k ++ encode v)))
    ∙ sym (append_assoc (item 3 j) (encode u ++ encode es) (item 3 k ++ encode v))

-- ---- a key that stands twice

module _ (p : List ℕ → Bool) where
  twice-add : (es : Entries) (k : List ℕ) (v : Yaml) → twice_in p es ≡ false → (p k ≡ true → has_key k es ≡ true → ⊥) → twice_in p (add es k v) ≡ false
  unfolding twice_in add has_key
  twice-add done k v e n = false_from_ne_true _ λ t. ⊎_elim (λ a. false≢true (and_parts (p k) false a).1) false≢true (or_cases (p k && false) false t)
  twice-add (pair j u es) k v e n = false_from_ne_true _ λ t. ⊎_elim
      (λ a. ⊎_elim
      (λ q. n (subst (λ (l : List ℕ). p l ≡ true) (sym q) (and_parts (p j) _ a).0) (or_left (same j k) (has_key k es) (subst (λ (l : List ℕ). same j l ≡ true) (sym q) (same_refl j))))
      (λ f. both_ways _ (or_parts (p j && has_key j es) (twice_in p es) e).0 (and_from (p j) (has_key j es) (and_parts (p j) _ a).0 f))
      (has-one es k j v (and_parts (p j) _ a).1))
      (λ b. both_ways _ (twice-add es k v (or_parts (p j && has_key j es) (twice_in p es) e).1 (λ pk f. n pk (or_right (same j k) (has_key k es) f))) b)
      (or_cases (p j && has_key j (add es k v)) (twice_in p (add es k v)) t)

  twice-join : (a : Entries) (k : List ℕ) (v : Yaml) (b : Entries) → p k ≡ true → has_key k a ≡ true → twice_in p (a ⋈ pair k v b) ≡ true
  unfolding twice_in has_key ◌⋈◌
  twice-join done k v b e h = absurd (false≢true h)
  twice-join (pair j u a) k v b e h = ⊎_elim
      (λ t. let q : j ≡ k = same-eq j k t in
      or_left (p j && has_key j (a ⋈ pair k v b)) _ (and_from (p j) _ (subst (λ (l : List ℕ). p l ≡ true) (sym q) e)
      (subst (λ (l : List ℕ). has_key l (a ⋈ pair k v b) ≡ true) (sym q) (has_join a k v b))))
      (λ f. or_right (p j && has_key j (a ⋈ pair k v b)) _ (twice-join a k v b e f))
      (or_cases (same j k) (has_key k a) h)

  pub twice_whole : (es : Entries) → twice_in p es ≡ true → key_twice es ≡ true
  unfolding twice_in key_twice
  twice_whole done e = e
  twice_whole (pair k v es) e = ⊎_elim (λ a. or_left (has_key k es) (key_twice es) (and_parts (p k) (has_key k es) a).1)
      (λ b. or_right (has_key k es) (key_twice es) (twice_whole es b)) (or_cases (p k && has_key k es) (twice_in p es) e)

module _ (class last : ℕ) (k : List ℕ) where
  pub of_class_lem : of_class class last k ≡ true → bit_and (hash_of k / 2 ^ 28) last ≡ class
  unfolding of_class
  of_class_lem e = eqb-true _ _ e

  pub class_of : bit_and (hash_of k / 2 ^ 28) last ≡ class → of_class class last k ≡ true
  unfolding of_class
  class_of e = eq-eqb _ _ e

-- no key of any class stands twice
pub no-class : (last : ℕ) (es : Entries) → ((c : ℕ) → c ≤ last → twice_in (of_class c last) es ≡ false) → key_twice es ≡ false
unfolding twice_in key_twice of_class
no-class last done h = refl
no-class last (pair k v es) h = false_from_ne_true _ λ t. ⊎_elim
    (λ a. let c : ℕ = bit_and (hash_of k / 2 ^ 28) last in
    both_ways _ (or_parts (of_class c last k && has_key k es) (twice_in (of_class c last) es) (h c (and_le_r (hash_of k / 2 ^ 28) last))).0 (and_from (of_class c last k) (has_key k es) (eq-eqb c c refl) a))
    (λ b. both_ways _ (no-class last es (λ c i. (or_parts (of_class c last k && has_key k es) (twice_in (of_class c last) es) (h c i)).1)) b)
    (or_cases (has_key k es) (key_twice es) t)

pub class-done : (class last : ℕ) (es : Entries) → ((n : ℕ) → n < class → twice_in (of_class n last) es ≡ false) → twice_in (of_class class last) es ≡ false
    → (n : ℕ) → n < class + 1 → twice_in (of_class n last) es ≡ false
class-done class last es h e n i = go (eqb n class) refl
  where
    go : (t : Bool) → eqb n class ≡ t → twice_in (of_class n last) es ≡ false
    go true q = subst (λ (m : ℕ). twice_in (of_class m last) es ≡ false) (sym (eqb-true n class q)) e
    go false q = let u : n ≡ class → ⊥ = eqb-false n class q in h n (omega (arith, u))

pub classes_done : (class last : ℕ) (es : Entries) → last ≤ class → ((n : ℕ) → n < class → twice_in (of_class n last) es ≡ false) → twice_in (of_class class last) es ≡ false → false ≡ key_twice es
classes_done class last es l h e = sym (no-class last es (λ n i. class-done class last es h e n (omega arith)))

-- ---- each key searched for behind it

module _ {s : List ℕ} {to at : ℕ} {es : Entries} (w : LeftOver s to at es) where
  pub judged_all : to ≤ at → false ≡ key_twice es
  unfolding key_twice
  judged_all h = sym (w.whole ∙ ap key_twice (no_more w.rest h w.lies))

  module _ {p : Pair} (t : Turn s at to w.rest p) where
    opened : {b : Bool} → has_key t.entry.k t.entry.others ≡ b → key_twice es ≡ b || key_twice t.entry.others
    unfolding key_twice
    opened e = w.whole ∙ ap key_twice t.entry.is ∙ ap (λ (b : Bool). b || key_twice t.entry.others) e

    pub judged-again : has_key t.entry.k t.entry.others ≡ true → true ≡ key_twice es
    judged-again e = sym (opened e)

    pub judged-on : has_key t.entry.k t.entry.others ≡ false → LeftOver s to p.next es
    judged-on e = record { rest = t.entry.others; lies = t.behind; whole = opened e }

-- ---- the walk

stands-join : {s : List ℕ} {p : ℕ} (a b : List ℕ) → Stands s p a → Stands s (p + length a) b → Stands s p (a ++ b)
stands-join {s} {p} a b st tt' = record {
  rest = tt'.rest;
  here = st.here ∙ ap (λ (l : List ℕ). a ++ l) (sym (drop_at a st.rest (length a) refl) ∙ ap (drop (length a)) (sym st.here) ∙ drop-drop (length a) p s ∙ tt'.here) ∙ sym (append_assoc a b tt'.rest);
  within = omega (arith, length-append a b, tt'.within);
}

-- the entries that were passed have no key of the class twice, and their keys' bits are there
pub record Passed (s : List ℕ) (from to : ℕ) (p : List ℕ → Bool) (es : Entries) (at : ℕ) (seen : List ℕ) : Type 0 where
  pub front : Entries
  pub rest : Entries
  pub before : Lies s from at front
  pub behind : Lies s at to rest
  pub whole : es ≡ front ⋈ rest
  pub fresh : twice_in p front ≡ false
  pub kept : (k : List ℕ) → p k ≡ true → has_key k front ≡ true → Has seen (hash_of k)

pub passed_none : {s : List ℕ} {from to : ℕ} {p : List ℕ → Bool} {seen : List ℕ} (es : Entries) → Lies s from to es → Passed s from to p es from seen
unfolding encode twice_in has_key ◌⋈◌
passed_none {s} {from} es h = record {
  front = done;
  rest = es;
  before = record { stands = record { rest = drop from s; here = refl; within = omega (arith, h.stands.within) }; ends = omega arith };
  behind = h;
  whole = refl;
  fresh = refl;
  kept = λ k e f. absurd (false≢true f);
}

module _ {s : List ℕ} {from to : ℕ} {p : List ℕ → Bool} {es : Entries} {at : ℕ} {seen : List ℕ} (w : Passed s from to p es at seen) where
  pub passed-all : to ≤ at → twice_in p es ≡ false
  passed-all h = ap (twice_in p) (w.whole ∙ ap (λ (l : Entries). w.front ⋈ l) (no_more w.rest h w.behind) ∙ none_more w.front) ∙ w.fresh

  module _ {entry : Pair} (t : Turn s at to w.rest entry) where
    abbrev key : List ℕ
    key = t.entry.k

    pub passed-again : p key ≡ true → has_key key w.front ≡ true → twice_in p es ≡ true
    passed-again e h = ap (twice_in p) (w.whole ∙ ap (λ (l : Entries). w.front ⋈ l) t.entry.is) ∙ twice-join p w.front key t.entry.v t.entry.others e h

    lies-add : Lies s from entry.next (add w.front key t.entry.v)
    unfolding encode
    lies-add =
        let one : List ℕ = item 3 key ++ encode t.entry.v in
        let size : length (encode w.rest) ≡ length one + length (encode t.entry.others)
        = ap (λ (e : Entries). length (encode e)) t.entry.is ∙ ap length (sym (append_assoc (item 3 key) (encode t.entry.v) (encode t.entry.others))) ∙ length-append one (encode t.entry.others) in
        let grown : length (encode (add w.front key t.entry.v)) ≡ length (encode w.front) + length one = ap length (add-bytes w.front key t.entry.v) ∙ length-append (encode w.front) one in
        let here : Stands s (from + length (encode w.front)) one
        = stands_at w.before.ends (stands-left one (encode t.entry.others) (stands-is (sym (append_assoc (item 3 key) (encode t.entry.v) (encode t.entry.others))) t.entry.whole)) in
        record { stands = stands-is (sym (add-bytes w.front key t.entry.v)) (stands-join (encode w.front) one w.before.stands here); ends = omega (arith, w.before.ends, w.behind.ends, t.behind.ends, size, grown) }

    pub passed_on : (new : List ℕ) → (p key ≡ true → has_key key w.front ≡ true → ⊥) → (p key ≡ true → Has new (hash_of key)) → ((g : ℕ) → Has seen g → Has new g) → Passed s from to p es entry.next new
    passed_on new n here more = record {
      front = add w.front key t.entry.v;
      rest = t.entry.others;
      before = lies-add;
      behind = t.behind;
      whole = w.whole ∙ ap (λ (l : Entries). w.front ⋈ l) t.entry.is ∙ sym (add-more w.front key t.entry.v t.entry.others);
      fresh = twice-add p w.front key t.entry.v w.fresh n;
      kept = λ k e f. ⊎_elim (λ q. subst (λ (l : List ℕ). Has new (hash_of l)) q (here (subst (λ (l : List ℕ). p l ≡ true) (sym q) e)))
          (λ g. more (hash_of k) (w.kept k e g)) (has-one w.front key k t.entry.v f);
    }
