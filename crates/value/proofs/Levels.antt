-- A tree that was read has no more levels than were allowed, and a sound tree is read back. Assumes nothing.
use Rattle.std.proofs.Common.{◌≡◌, refl, subst, ℕ, zero, suc, ◌^◌, ◌≤◌, ◌<◌, le_refl, arith, List, [], ◌∷◌, ◌++◌, true, not, eqb, length, ltb-true}
use Rattle.std.proofs.lemmas.Bool.{and_parts}
use Rattle.std.proofs.Math.Option.{Option, none, some, some-injective}
use Rattle.refusal.proofs.Tools.{chosen}
use Rattle.utf8.specs.Utf8.{is_utf8}
use Rattle.item.specs.Tree.{Shape, Node, Yaml, null, bool, int, str, seq, dict, Items, end, ◌▸◌, Entries, done, pair, has_key, levels, Ranged}
use Rattle.item.specs.Encode.{encode}
use Rattle.item.specs.Decode.{◌>>=◌, Decoder, header, unflag, unint, unkey, decode_items, decode_entries, content_of, node, decode}
use Rattle.item.proofs.Exact.{got, none≢, nothing-inv}
use Rattle.item.proofs.RoundTrip.{back}
use Rattle.meaning.specs.Sound.{sound}
use Rattle.value.specs.Tree.{tree}

abbrev Low : ℕ → Decoder Yaml → Type 0
Low l f = (bs : List ℕ) (x : Yaml × List ℕ) → f bs ≡ some x → levels x.0 ≤ l

module _ (l : ℕ) (f : Decoder Yaml) (low : Low l f) where
  items-low : (t : ℕ) (bs : List ℕ) (ys : Items) → decode_items f t bs ≡ some ys → levels ys ≤ l
  unfolding decode_items levels
  items-low zero [] ys e = rw (← some-injective _ _ e) (omega arith)
  items-low zero (c ∷ bs) ys e = none≢ ys e
  items-low (suc t) [] ys e = rw (← some-injective _ _ e) (omega arith)
  items-low (suc t) (c ∷ bs) ys e = got (f (c ∷ bs)) _ ys e
      λ x p e. got (decode_items f t x.1) _ ys e
      λ zs q r. subst (λ (y : Items). levels y ≤ l) (some-injective _ _ r) (omega (arith, low (c ∷ bs) x p, items-low t x.1 zs q))

  entries-low : (t : ℕ) (bs : List ℕ) (es : Entries) → decode_entries f t bs ≡ some es → levels es ≤ l
  unfolding decode_entries levels
  entries-low zero [] es e = rw (← some-injective _ _ e) (omega arith)
  entries-low zero (c ∷ bs) es e = none≢ es e
  entries-low (suc t) [] es e = rw (← some-injective _ _ e) (omega arith)
  entries-low (suc t) (c ∷ bs) es e = got (unkey (c ∷ bs)) _ es e
      λ k _ e. got (f k.1) _ es e
      λ x p e. got (decode_entries f t x.1) _ es e
      λ zs q r. subst (λ (y : Entries). levels y ≤ l) (some-injective _ _ r) (omega (arith, low k.1 x p, entries-low t x.1 zs q))

module _ (l : ℕ) (o : Option (Decoder Yaml)) (inner : (f : Decoder Yaml) → o ≡ some f → (m : ℕ) × (l ≡ suc m) × Low m f) where
  content-low : (k : ℕ) (s : List ℕ) (y : Yaml) → content_of o k s ≡ some y → levels y ≤ l
  unfolding content_of levels
  content-low k s y e =
      chosen (eqb k 0) _ _ e (λ _ p. rw (← (nothing-inv null y s p).1) (omega arith))
      λ _ e. chosen (eqb k 1) _ _ e (λ _ p. got (unflag s) _ y p λ x _ r. rw (← some-injective _ _ r) (omega arith))
      λ _ e. chosen (eqb k 2) _ _ e (λ _ p. got (unint s) _ y p λ x _ r. rw (← some-injective _ _ r) (omega arith))
      λ _ e. chosen (eqb k 3) _ _ e (λ _ p. rw (← some-injective _ _ p) (omega arith))
      λ _ e. chosen (eqb k 4) _ _ e (λ _ p. got o _ y p λ f q p. got (decode_items f (length s) s) _ y p
      λ ys r p. let (m, h, low) = inner f q in rw (← some-injective _ _ p) (omega (arith, items-low m f low (length s) s ys r)))
      λ _ e. chosen (eqb k 5) _ _ e (λ _ p. got o _ y p λ f q p. got (decode_entries f (length s) s) _ y p
      λ es r p. let (m, h, low) = inner f q in rw (← some-injective _ _ p) (omega (arith, entries-low m f low (length s) s es r)))
      λ _ e. none≢ y e

  node-low : Low l (node o)
  unfolding node
  node-low bs x e = got (header bs) _ x e
      λ y _ e. got (content_of o y.0 y.1) _ x e
      λ v q r. subst (λ (z : Yaml × List ℕ). levels z.0 ≤ l) (some-injective _ _ r) (content-low y.0 y.1 v q)

pub decode-low : (l : ℕ) (bs : List ℕ) (x : Yaml × List ℕ) → decode l bs ≡ some x → levels x.0 ≤ l
unfolding decode
decode-low zero bs x e = node-low 0 none (λ f p. none≢ f p) bs x e
decode-low (suc l) bs x e =
    node-low (suc l) (some (λ r. decode l r)) (λ f p. (l, refl, subst (Low l) (some-injective _ _ p) (decode-low l))) bs x e

-- ---- the way back

pub ranged : {s : Shape} (y : Node s) → sound y ≡ true → Ranged y
unfolding sound
ranged null h = tt
ranged (bool b) h = tt
ranged (int z) h = ltb-true _ _ h
ranged (str s) h = tt
ranged (seq ys) h = ranged ys h
ranged (dict es) h = ranged es h
ranged end h = tt
ranged (y ▸ ys) h = let p = and_parts (sound y) (sound ys) h in (ranged y p.0, ranged ys p.1)
ranged done h = tt
ranged (pair k v es) h =
    let p = and_parts (sound v) (sound es) (and_parts (not (has_key k es)) _ (and_parts (is_utf8 k) _ h).1).1 in
    (ranged v p.0, ranged es p.1)

pub tree-back : (l : ℕ) (y : Yaml) (r : List ℕ) → sound y ≡ true → levels y ≤ l → length (encode y) < 256 ^ 4 → tree l (encode y ++ r) ≡ some (y, r)
unfolding tree ◌>>=◌
tree-back l y r s v h = rw (back y l r _ v (ranged y s) h (le_refl _), s)
