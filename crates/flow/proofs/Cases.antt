-- The definition's turns, by what stands at their front. Assumes nothing.
use Rattle.std.specs.Prelude.{if◌then◌else◌}
use Rattle.std.proofs.Common.{◌≡◌, refl, sym, ◌∙◌, ℕ, zero, suc, ◌+◌, ◌≤◌, arith, List, [], ◌∷◌, Bool, true, false, ◌&&◌, ◌||◌, not, eqb, length, eqb-true}
use Rattle.std.proofs.Math.Bool.{false≢true, and_comm}
use Rattle.std.proofs.lemmas.Bool.{or_parts}
use Rattle.refusal.specs.Base.{Answer, good, refused, ◌>>=◌, ◌>>◌, given, ch}
use Rattle.refusal.proofs.Tools.{bind-cong}
use Rattle.item.specs.Tree.{Items, end, ◌▸◌, ◌◂◌, no_item, Entries, add, no_entry}
use Rattle.scalar.specs.declared.Role.TheVariants.{AsValue, AsKey}
use Rattle.scalar.specs.Scalars.{key_text}
use Rattle.scalar.specs.Read.{Reader, stop, skip_spaces}
use Rattle.flow.specs.Flow.{stuck, item_turn, items, behind_colon, fresh, entry_value, entry_turn, entries}
use Rattle.flow.specs.Contract.{separates, skip_separators, entry_of}
use Rattle.flow.proofs.Progress.{Takes, first, first-le, items-none, items-enough, entries_none, entries-enough}

bind_assoc : {A B C : Type 0} (a : Answer A) (f : A → Answer B) (g : B → Answer C) → (a >>= f >>= g) ≡ (a >>= λ x. f x >>= g)
unfolding ◌>>=◌
bind_assoc (good x) f g = refl
bind_assoc (refused k l s) f g = refl

bind-good : {A B : Type 0} (a : A) (f : A → Answer B) → (good a >>= f) ≡ f a
unfolding ◌>>=◌
bind-good a f = refl

-- what begins with no separator begins with no space
no-space : (got : Bool) (b : ℕ) → separates got b ≡ false → (eqb b (ch " ") ≡ false) × (got && eqb b (ch ",") ≡ false)
unfolding separates
no-space got b e = or_parts (eqb b (ch " ")) (got && eqb b (ch ",")) e

module _ (cap n : ℕ) (inside : Reader) (h : Takes cap n inside) where
  first_some : (got : Items) → no_item got ≡ false → first cap n got ≡ 0
  unfolding first no_item
  first_some end e = absurd (false≢true (sym e))
  first_some (y ▸ ys) e = refl

  items-space : (t : ℕ) (got : Items) (sum b : ℕ) (bs : List ℕ) → eqb b (ch " ") ≡ true → items cap n inside (suc t) got sum (b ∷ bs) ≡ items cap n inside (suc t) got sum bs
  unfolding items skip_spaces
  items-space t got sum b bs e = rw e

  items-comma : (t : ℕ) (got : Items) (sum b : ℕ) (bs : List ℕ) → eqb b (ch " ") ≡ false → no_item got ≡ false → eqb b (ch ",") ≡ true
      → items cap n inside (suc t) got sum (b ∷ bs) ≡ items cap n inside t got sum bs
  unfolding items item_turn skip_spaces
  items-comma t got sum b bs e f g = let q : b ≡ ch "," = eqb-true b (ch ",") g in rw (e, f, q)

  -- separators change nothing of what a sequence is read to
  pub items-skip : (t : ℕ) (got : Items) (sum : ℕ) (bs : List ℕ) → length bs + first cap n got ≤ t
      → items cap n inside t got sum bs ≡ items cap n inside (suc (length (skip_separators (not (no_item got)) bs))) got sum (skip_separators (not (no_item got)) bs)
  unfolding skip_separators separates first
  items-skip t got sum [] p = items-none cap n inside t got sum ∙ sym (items-none cap n inside 1 got sum)
  items-skip zero got sum (b ∷ bs) p = absurd (omega arith)
  items-skip (suc t) got sum (b ∷ bs) p = go (eqb b (ch " ")) (no_item got) (eqb b (ch ",")) refl refl refl (λ u q. items-skip u got sum bs q)
    where
      rest : List ℕ
      rest = skip_separators (not (no_item got)) bs

      more : Bool → List ℕ
      more x = if x then rest else b ∷ bs

      go : (x g y : Bool) → eqb b (ch " ") ≡ x → no_item got ≡ g → eqb b (ch ",") ≡ y
          → ((u : ℕ) → length bs + first cap n got ≤ u → items cap n inside u got sum bs ≡ items cap n inside (suc (length rest)) got sum rest)
          → items cap n inside (suc t) got sum (b ∷ bs) ≡ items cap n inside (suc (length (more (x || (not g && y))))) got sum (more (x || (not g && y)))
      go true g y ex eg ey ih = items-space t got sum b bs ex ∙ ih (suc t) (omega arith)
      go false false true ex eg ey ih = items-comma t got sum b bs ex eg ey ∙ ih t (omega (arith, first_some got eg))
      go false false false ex eg ey ih = items-enough cap n inside h (suc t) (suc (suc (length bs))) got sum (b ∷ bs) p (omega (arith, first-le cap n got))
      go false true y ex eg ey ih = items-enough cap n inside h (suc t) (suc (suc (length bs))) got sum (b ∷ bs) p (omega (arith, first-le cap n got))

  entries-space : (t : ℕ) (got : Entries) (sum b : ℕ) (bs : List ℕ) → eqb b (ch " ") ≡ true → entries cap n inside (suc t) got sum (b ∷ bs) ≡ entries cap n inside (suc t) got sum bs
  unfolding entries skip_spaces
  entries-space t got sum b bs e = rw e

  entries-comma : (t : ℕ) (got : Entries) (sum b : ℕ) (bs : List ℕ) → eqb b (ch " ") ≡ false → no_entry got ≡ false → eqb b (ch ",") ≡ true
      → entries cap n inside (suc t) got sum (b ∷ bs) ≡ entries cap n inside t got sum bs
  unfolding entries entry_turn skip_spaces
  entries-comma t got sum b bs e f g = let q : b ≡ ch "," = eqb-true b (ch ",") g in rw (e, f, q)

  -- separators change nothing of what a mapping is read to
  pub entries-skip : (t : ℕ) (got : Entries) (sum : ℕ) (bs : List ℕ) → length bs ≤ t
      → entries cap n inside t got sum bs ≡ entries cap n inside (suc (length (skip_separators (not (no_entry got)) bs))) got sum (skip_separators (not (no_entry got)) bs)
  unfolding skip_separators separates
  entries-skip t got sum [] p = entries_none cap n inside t got sum ∙ sym (entries_none cap n inside 1 got sum)
  entries-skip zero got sum (b ∷ bs) p = absurd (omega arith)
  entries-skip (suc t) got sum (b ∷ bs) p = go (eqb b (ch " ")) (no_entry got) (eqb b (ch ",")) refl refl refl (λ u q. entries-skip u got sum bs q)
    where
      rest : List ℕ
      rest = skip_separators (not (no_entry got)) bs

      more : Bool → List ℕ
      more x = if x then rest else b ∷ bs

      go : (x g y : Bool) → eqb b (ch " ") ≡ x → no_entry got ≡ g → eqb b (ch ",") ≡ y
          → ((u : ℕ) → length bs ≤ u → entries cap n inside u got sum bs ≡ entries cap n inside (suc (length rest)) got sum rest)
          → entries cap n inside (suc t) got sum (b ∷ bs) ≡ entries cap n inside (suc (length (more (x || (not g && y))))) got sum (more (x || (not g && y)))
      go true g y ex eg ey ih = entries-space t got sum b bs ex ∙ ih (suc t) (omega arith)
      go false false true ex eg ey ih = entries-comma t got sum b bs ex eg ey ∙ ih t (omega arith)
      go false false false ex eg ey ih = entries-enough cap n inside h (suc t) (suc (suc (length bs))) got sum (b ∷ bs) p (omega arith)
      go false true y ex eg ey ih = entries-enough cap n inside h (suc t) (suc (suc (length bs))) got sum (b ∷ bs) p (omega arith)

  -- ---- a turn at a byte that is no separator

  module _ (t sum b : ℕ) (bs : List ℕ) where
    module _ (got : Items) (s : separates (not (no_item got)) b ≡ false) where
      pub items-close : eqb b (ch "]") ≡ true → items cap n inside (suc t) got sum (b ∷ bs) ≡ good (got, sum, bs)
      unfolding items item_turn skip_spaces
      items-close e = rw ((no-space (not (no_item got)) b s).0, e)

      module _ (c : eqb b (ch "]") ≡ false) where
        pub comma-off : eqb b (ch ",") && not (no_item got) ≡ false
        comma-off = and_comm (eqb b (ch ",")) (not (no_item got)) ∙ (no-space (not (no_item got)) b s).1

        pub items-stuck : stuck b bs ≡ true → items cap n inside (suc t) got sum (b ∷ bs) ≡ stop cap n 19
        unfolding items item_turn skip_spaces
        items-stuck e = rw ((no-space (not (no_item got)) b s).0, c, comma-off, e)

        pub items-item : stuck b bs ≡ false
            → items cap n inside (suc t) got sum (b ∷ bs) ≡ (inside AsValue sum (b ∷ bs) >>= λ x. items cap n inside t (got ◂ x.0) x.1 x.2)
        unfolding items item_turn skip_spaces
        items-item e = rw ((no-space (not (no_item got)) b s).0, c, comma-off, e)

    module _ (got : Entries) (s : separates (not (no_entry got)) b ≡ false) where
      pub entries-close : eqb b (ch "}") ≡ true → entries cap n inside (suc t) got sum (b ∷ bs) ≡ good (got, sum, bs)
      unfolding entries entry_turn skip_spaces
      entries-close e = rw ((no-space (not (no_entry got)) b s).0, e)

      pub entries-entry : eqb b (ch "}") ≡ false
          → entries cap n inside (suc t) got sum (b ∷ bs)
          ≡ (entry_of cap n inside sum (b ∷ bs) >>= λ x. fresh cap n x.0.0 got >> entries cap n inside t (add got x.0.0 x.0.1) x.1 x.2)
      unfolding entries entry_turn entry_of skip_spaces
      entries-entry e =
          rw ((no-space (not (no_entry got)) b s).0, e, comma-none)
          (sym (bind_assoc (inside AsKey sum (b ∷ bs)) _ _ ∙ bind-cong (inside AsKey sum (b ∷ bs)) _ _
          λ x _. bind_assoc (given (key_text x.0) 16 n 0) _ _ ∙ bind-cong (given (key_text x.0) 16 n 0) _ _
          λ k _. bind_assoc (behind_colon cap n (skip_spaces x.2)) _ _ ∙ bind-cong (behind_colon cap n (skip_spaces x.2)) _ _
          λ r _. bind_assoc (entry_value cap n inside x.1 (skip_spaces r)) _ _ ∙ bind-cong (entry_value cap n inside x.1 (skip_spaces r)) _ _
          λ v _. bind-good ((k, v.0), v.1, v.2) _))
        where
          comma-none : eqb b (ch ",") && not (no_entry got) ≡ false
          comma-none = and_comm (eqb b (ch ",")) (not (no_entry got)) ∙ (no-space (not (no_entry got)) b s).1
