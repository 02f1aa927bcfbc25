-- A quoted string that takes one place for each of its bytes and one for the closing quote has nothing escaped: its bytes stand in the text
-- as they are. Assumes nothing.
use Rattle.std.specs.Prelude.{if◌then◌else◌}
use Rattle.std.proofs.Common.{◌≡◌, refl, sym, ap, ℕ, suc, ◌+◌, ◌-◌, ◌≤◌, ◌<◌, arith, List, [], ◌∷◌, Bool, true, false, ◌⊎◌, inl, inr, ⊎_elim, eqb, length, take, drop, length-drop}
use Rattle.std.proofs.Math.Option.{Option, none, some}
use Rattle.refusal.specs.Base.{good, refused, ch}
use Rattle.refusal.proofs.Tools.{good-inj, refused≢good}
use Rattle.utf8.specs.Part.{part}
use Rattle.scalar.specs.declared.Quote.{Quote}
use Rattle.scalar.specs.declared.Quote.TheVariants.{Single, Double}
use Rattle.scalar.specs.Read.{stop, escape, onto_good, onto_escape, double_quoted, single_quoted}
use Rattle.scalar.specs.Contract.{quoted_of}
use Rattle.scalar.specs.Code.{Content}

-- the string `t` was read from `u`, which leaves `rest`: it has no more bytes than it has places, and where it has as many it is its front
abbrev Fits : List ℕ → List ℕ → List ℕ → Type 0
Fits u t rest = (length t + length rest < length u) × (length u ≡ suc (length t + length rest) → t ≡ take (length t) u)

module _ (b : ℕ) (bs t rest : List ℕ) where
  fits-shut : t ≡ [] → length rest ≤ length bs → Fits (b ∷ bs) t rest
  fits-shut e h = rw e (omega arith, λ q. refl)

  fits-less : length t + length rest < length bs → Fits (b ∷ bs) t rest
  fits-less h = (omega arith, λ q. absurd (omega arith))

  fits_byte : (u : List ℕ) → t ≡ b ∷ u → Fits bs u rest → Fits (b ∷ bs) t rest
  fits_byte u e f = rw e (omega (arith, f.0), λ q. ap (λ (l : List ℕ). b ∷ l) (f.1 (omega arith)))

module _ (cap line : ℕ) where
  onto_good_lem : {X : Type 0} (b : ℕ) (a : Content) (t rest : List ℕ) → onto_good cap line b a ≡ good (t, rest) → ((u : List ℕ) → a ≡ good (u, rest) → t ≡ b ∷ u → X) → X
  onto_good_lem b (good (u, r)) t rest e k =
      let q : ◌≡◌ {A = List ℕ × List ℕ} (b ∷ u, r) (t, rest) = good-inj _ _ e in
      k u (ap (λ (x : List ℕ × List ℕ). good (u, x.1)) q) (sym (ap (λ (x : List ℕ × List ℕ). x.0) q))
  onto_good_lem b (refused n l s) t rest e k = refused≢good (t, rest) n l s e

  shut-good : (us t rest : List ℕ) → ◌≡◌ {A = Content} (good ([], us)) (good (t, rest)) → (t ≡ []) × (length rest ≤ length us)
  shut-good us t rest e =
      let q : ◌≡◌ {A = List ℕ × List ℕ} ([], us) (t, rest) = good-inj _ _ e in
      (sym (ap (λ (x : List ℕ × List ℕ). x.0) q), omega (arith, ap (λ (x : List ℕ × List ℕ). length x.1) q))

  -- behind a `\\` the string has fewer bytes than places
  abbrev AfterDouble : Bool → List ℕ → List ℕ → List ℕ → Type 0
  AfterDouble true u t rest = length t + length rest < length u
  AfterDouble false u t rest = Fits u t rest

  double-fits : (hid : Bool) (u t rest : List ℕ) → double_quoted cap line hid u ≡ good (t, rest) → AfterDouble hid u t rest
  unfolding double_quoted stop
  double-fits true [] t rest e = refused≢good (t, rest) 11 line 0 e
  double-fits false [] t rest e = refused≢good (t, rest) 13 line 0 e
  double-fits true (b ∷ bs) t rest e = go (escape b) e (double-fits false bs)
    where
      go : (o : Option ℕ) → onto_escape cap line o (double_quoted cap line false bs) ≡ good (t, rest)
          → ((u r : List ℕ) → double_quoted cap line false bs ≡ good (u, r) → Fits bs u r) → length t + length rest < suc (length bs)
      go none p f = refused≢good (t, rest) 12 line 0 p
      go (some x) p f = onto_good_lem x _ t rest p (λ u q h. omega (arith, ap length h, (f u rest q).0))
  double-fits false (b ∷ bs) t rest e = go (eqb b (ch "\"")) (eqb b (ch "\\")) e (double-fits true bs) (double-fits false bs)
    where
      go : (x y : Bool) → (if x then good ([], bs) else if y then double_quoted cap line true bs else onto_good cap line b (double_quoted cap line false bs)) ≡ good (t, rest)
          → ((u r : List ℕ) → double_quoted cap line true bs ≡ good (u, r) → length u + length r < length bs)
          → ((u r : List ℕ) → double_quoted cap line false bs ≡ good (u, r) → Fits bs u r) → Fits (b ∷ bs) t rest
      go true y p f g = let k = shut-good bs t rest p in fits-shut b bs t rest k.0 k.1
      go false true p f g = fits-less b bs t rest (f t rest p)
      go false false p f g = onto_good_lem b _ t rest p (λ u q h. fits_byte b bs t rest u h (g u rest q))

  -- behind a `'` the string has ended, or has fewer bytes than places
  abbrev AfterSingle : Bool → List ℕ → List ℕ → List ℕ → Type 0
  AfterSingle true u t rest = ((t ≡ []) × (length rest ≤ length u)) ⊎ (length t + length rest < length u)
  AfterSingle false u t rest = Fits u t rest

  single-fits : (shut : Bool) (u t rest : List ℕ) → single_quoted cap line shut u ≡ good (t, rest) → AfterSingle shut u t rest
  unfolding single_quoted stop
  single-fits true [] t rest e = inl (shut-good [] t rest e)
  single-fits false [] t rest e = refused≢good (t, rest) 13 line 0 e
  single-fits true (b ∷ bs) t rest e = go (eqb b (ch "'")) e (single-fits false bs)
    where
      go : (x : Bool) → (if x then onto_good cap line b (single_quoted cap line false bs) else good ([], b ∷ bs)) ≡ good (t, rest)
          → ((u r : List ℕ) → single_quoted cap line false bs ≡ good (u, r) → Fits bs u r) → AfterSingle true (b ∷ bs) t rest
      go true p f = onto_good_lem b _ t rest p (λ u q h. inr (omega (arith, ap length h, (f u rest q).0)))
      go false p f = inl (shut-good (b ∷ bs) t rest p)
  single-fits false (b ∷ bs) t rest e = go (eqb b (ch "'")) e (single-fits true bs) (single-fits false bs)
    where
      go : (x : Bool) → (if x then single_quoted cap line true bs else onto_good cap line b (single_quoted cap line false bs)) ≡ good (t, rest)
          → ((u r : List ℕ) → single_quoted cap line true bs ≡ good (u, r) → AfterSingle true bs u r)
          → ((u r : List ℕ) → single_quoted cap line false bs ≡ good (u, r) → Fits bs u r) → Fits (b ∷ bs) t rest
      go true p f g = ⊎_elim (λ k. fits-shut b bs t rest k.0 k.1) (λ k. fits-less b bs t rest k) (f t rest p)
      go false p f g = onto_good_lem b _ t rest p (λ u q h. fits_byte b bs t rest u h (g u rest q))

  quoted-fits : (quote : Quote) (u t rest : List ℕ) → quoted_of quote cap line u ≡ good (t, rest) → Fits u t rest
  quoted-fits Single u t rest e = single-fits false u t rest e
  quoted-fits Double u t rest e = double-fits false u t rest e

  pub copied : (quote : Quote) (s t : List ℕ) (i next end : ℕ) → end ≡ i + length t → next ≡ end + 1 → next ≤ length s
      → quoted_of quote cap line (drop i s) ≡ good (t, drop next s) → t ≡ part s i end
  copied quote s t i next end e n h q =
      let z : end - i ≡ length t = omega arith in
      rw z ((quoted-fits quote (drop i s) t (drop next s) q).1 (omega (arith, length-drop i s, length-drop next s)))
