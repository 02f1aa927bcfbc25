-- A flow reading leaves no more than it was given, and each turn of a loop takes something: so the loops' counts are never used up. Assumes nothing.
use Rattle.std.proofs.Common.{◌≡◌, refl, sym, ap, subst, ℕ, zero, suc, ◌+◌, ◌≤◌, ◌<◌, arith, List, [], ◌∷◌, Bool, true, false, ◌&&◌, ◌||◌, not, ◌⊎◌, inl, inr, ⊎_elim, eqb, length}
use Rattle.std.proofs.Math.Option.{Option, none, some, some-injective, none-ne-some}
use Rattle.std.proofs.lemmas.Bool.{cond_both}
use Rattle.refusal.specs.Base.{Answer, good, refused, ◌>>◌, given, ch}
use Rattle.item.specs.Tree.{Yaml, null, str, Items, end, ◌▸◌, ◌◂◌, no_item, Entries, done, add, no_entry}
use Rattle.scalar.specs.Scalars.{key_text}
use Rattle.scalar.specs.declared.Role.{Role}
use Rattle.scalar.specs.declared.Role.TheVariants.{AsValue, AsKey}
use Rattle.scalar.specs.Read.{cost, Got, Reader, charge, scalar, plain, plain_text, ends_item, ends_colon, stops_plain, string, skip_spaces, stop, escape, double_quoted, single_quoted, onto_good, onto_escape}
use Rattle.flow.specs.Flow.{stuck, item_turn, items, behind_colon, fresh, entry_value, entry_turn, entries, flow_seq, flow_map, node, value}
use Rattle.refusal.proofs.Tools.{good-inj, refused≢good, bound, bound', chosen, bind-cong, if-cong}

skip-le : (bs : List ℕ) → length (skip_spaces bs) ≤ length bs
unfolding skip_spaces
skip-le [] = omega arith
skip-le (b ∷ bs) = cond_both (eqb b (ch " ")) _ _ (λ (r : List ℕ). length r ≤ suc (length bs)) (λ _. omega (arith, skip-le bs)) (λ _. omega arith)

plain-le : (in_flow : Bool) (bs : List ℕ) → length (plain_text in_flow bs).1 ≤ length bs
unfolding plain_text
plain-le in_flow [] = omega arith
plain-le in_flow (b ∷ bs) = cond_both (in_flow && stops_plain b bs) _ _ (λ (r : List ℕ × List ℕ). length r.1 ≤ suc (length bs)) (λ _. omega arith) (λ _. omega (arith, plain-le in_flow bs))

-- plain text that does not stop at once takes a byte
plain-lt : (in_flow : Bool) (b : ℕ) (bs : List ℕ) → in_flow && stops_plain b bs ≡ false → length (plain_text in_flow (b ∷ bs)).1 ≤ length bs
unfolding plain_text
plain-lt in_flow b bs e = rw e (plain-le in_flow bs)

module _ (cap n : ℕ) where
  onto-le : (b k : ℕ) (a : Answer (List ℕ × List ℕ)) (g : List ℕ × List ℕ) → onto_good cap n b a ≡ good g
      → ((g : List ℕ × List ℕ) → a ≡ good g → length g.1 ≤ k) → length g.1 ≤ k
  onto-le b k (good (t, r)) g e h = rw (← good-inj _ _ e) (h (t, r) refl)
  onto-le b k (refused x y z) g e h = refused≢good g x y z e

  double-le : (hid : Bool) (bs : List ℕ) (g : List ℕ × List ℕ) → double_quoted cap n hid bs ≡ good g → length g.1 ≤ length bs
  unfolding double_quoted stop
  double-le true [] g e = refused≢good g 11 n 0 e
  double-le false [] g e = refused≢good g 13 n 0 e
  double-le true (b ∷ bs) g e = escaped (escape b) e (λ g h. double-le false bs g h)
    where
      escaped : (o : Option ℕ) → onto_escape cap n o (double_quoted cap n false bs) ≡ good g
          → ((g : List ℕ × List ℕ) → double_quoted cap n false bs ≡ good g → length g.1 ≤ length bs) → length g.1 ≤ suc (length bs)
      escaped none e h = refused≢good g 12 n 0 e
      escaped (some c) e h = omega (arith, onto-le c (length bs) (double_quoted cap n false bs) g e h)
  double-le false (b ∷ bs) g e =
      chosen (eqb b (ch "\"")) _ _ e (λ _ p. rw (← good-inj _ _ p) (omega arith))
      λ _ p. chosen (eqb b (ch "\\")) _ _ p (λ _ q. omega (arith, double-le true bs g q))
      λ _ q. omega (arith, onto-le b (length bs) _ g q (λ g h. double-le false bs g h))

  single-le : (shut : Bool) (bs : List ℕ) (g : List ℕ × List ℕ) → single_quoted cap n shut bs ≡ good g → length g.1 ≤ length bs
  unfolding single_quoted stop
  single-le true [] g e = rw (← good-inj _ _ e) (omega arith)
  single-le false [] g e = refused≢good g 13 n 0 e
  single-le true (b ∷ bs) g e =
      chosen (eqb b (ch "'")) _ _ e (λ _ q. omega (arith, onto-le b (length bs) _ g q (λ g h. single-le false bs g h))) (λ _ p. rw (← good-inj _ _ p) (omega arith))
  single-le false (b ∷ bs) g e =
      chosen (eqb b (ch "'")) _ _ e (λ _ q. omega (arith, single-le true bs g q)) (λ _ q. omega (arith, onto-le b (length bs) _ g q (λ g h. single-le false bs g h)))

  -- ---- readers that leave no more than they were given, and less where plain text does not stop at once

  pub record Takes (f : Reader) : Type 0 where
    pub some_left : (role : Role) (sum : ℕ) (bs : List ℕ) (g : Got Yaml) → f role sum bs ≡ good g → length g.2 ≤ length bs
    pub takes : (role : Role) (sum b : ℕ) (bs : List ℕ) (g : Got Yaml) → stops_plain b bs ≡ false → f role sum (b ∷ bs) ≡ good g → length g.2 ≤ length bs

  scalar-rest : (role : Role) (sum : ℕ) (y : Yaml) (rest : List ℕ) (g : Got Yaml) → scalar cap n role sum y rest ≡ good g → g.2 ≡ rest
  unfolding scalar
  scalar-rest role sum y rest g e = bound (charge cap sum (cost role y)) _ g e λ s p q. sym (ap (λ (x : Got Yaml). x.2) (good-inj _ _ q))

  abbrev Leaves : {A : Type 0} → (A → ℕ → List ℕ → Answer (Got A)) → Type 0
  Leaves {A} more = (got : A) (sum : ℕ) (bs : List ℕ) (g : Got A) → more got sum bs ≡ good g → length g.2 ≤ length bs

  item_turn-le : (inside : Reader) (more : Items → ℕ → List ℕ → Answer (Got Items)) → Takes inside → Leaves more → Leaves (item_turn cap n inside more)
  unfolding item_turn stop
  item_turn-le inside more h ih got sum [] g e = refused≢good g 10 n 0 e
  item_turn-le inside more h ih got sum (b ∷ bs) g e =
      chosen (eqb b (ch "]")) _ _ e (λ _ q. rw (← good-inj _ _ q) (omega arith))
      λ _ p. chosen (eqb b (ch ",") && not (no_item got)) _ _ p (λ _ q. omega (arith, ih got sum bs g q))
      λ _ p. chosen (stuck b bs) _ _ p (λ _ q. refused≢good g 19 n 0 q)
      λ _ p. bound (inside AsValue sum (b ∷ bs)) _ g p λ x q r.
      omega (arith, h.some_left AsValue sum (b ∷ bs) x q, ih (got ◂ x.0) x.1 x.2 g r)

  items-le : (inside : Reader) → Takes inside → (t : ℕ) → Leaves (items cap n inside t)
  unfolding items stop
  items-le inside h zero got sum bs g e = refused≢good g 10 n 0 e
  items-le inside h (suc t) got sum bs g e = omega (arith, skip-le bs, item_turn-le inside _ h (items-le inside h t) got sum (skip_spaces bs) g e)

  colon-le : (bs g : List ℕ) → behind_colon cap n bs ≡ good g → length g < length bs
  unfolding behind_colon stop
  colon-le [] g e = refused≢good g 17 n 0 e
  colon-le (b ∷ bs) g e = chosen (eqb b (ch ":")) _ _ e (λ _ q. rw (← good-inj _ _ q) (omega arith)) (λ _ q. refused≢good g 17 n 0 q)

  pub entry_value-le : (inside : Reader) → Takes inside → (sum : ℕ) (bs : List ℕ) (g : Got Yaml) → entry_value cap n inside sum bs ≡ good g → length g.2 ≤ length bs
  unfolding entry_value
  entry_value-le inside h sum [] g e = h.some_left AsValue sum [] g e
  entry_value-le inside h sum (b ∷ bs) g e =
      chosen (eqb b (ch ",") || eqb b (ch "}")) _ _ e (λ _ q. rw (scalar-rest AsValue sum null (b ∷ bs) g q) (omega arith)) (λ _ q. h.some_left AsValue sum (b ∷ bs) g q)

  entry_turn-le : (inside : Reader) (more : Entries → ℕ → List ℕ → Answer (Got Entries)) → Takes inside → Leaves more → Leaves (entry_turn cap n inside more)
  unfolding entry_turn stop
  entry_turn-le inside more h ih got sum [] g e = refused≢good g 9 n 0 e
  entry_turn-le inside more h ih got sum (b ∷ bs) g e =
      chosen (eqb b (ch "}")) _ _ e (λ _ q. rw (← good-inj _ _ q) (omega arith))
      λ _ p. chosen (eqb b (ch ",") && not (no_entry got)) _ _ p (λ _ q. omega (arith, ih got sum bs g q))
      λ _ p. bound (inside AsKey sum (b ∷ bs)) _ g p
      λ x q p. bound (given (key_text x.0) 16 n 0) _ g p
      λ k qk p. bound (behind_colon cap n (skip_spaces x.2)) _ g p
      λ r qr p. bound (entry_value cap n inside x.1 (skip_spaces r)) _ g p
      λ v qv p. bound' (fresh cap n k got) _ g p
      λ p. omega (
        arith,
        h.some_left AsKey sum (b ∷ bs) x q,
        skip-le x.2,
        colon-le _ r qr,
        skip-le r,
        entry_value-le inside h x.1 (skip_spaces r) v qv,
        ih (add got k v.0) v.1 v.2 g p,
      )

  entries-le : (inside : Reader) → Takes inside → (t : ℕ) → Leaves (entries cap n inside t)
  unfolding entries stop
  entries-le inside h zero got sum bs g e = refused≢good g 9 n 0 e
  entries-le inside h (suc t) got sum bs g e = omega (arith, skip-le bs, entry_turn-le inside _ h (entries-le inside h t) got sum (skip_spaces bs) g e)

  abbrev AllTake : Option Reader → Type 0
  AllTake inside = (f : Reader) → inside ≡ some f → Takes f

  flow_seq-le : (inside : Option Reader) → AllTake inside → (sum : ℕ) (bs : List ℕ) (g : Got Yaml) → flow_seq cap n inside sum bs ≡ good g → length g.2 ≤ length bs
  unfolding flow_seq stop
  flow_seq-le none h sum bs g e = refused≢good g 20 n 0 e
  flow_seq-le (some f) h sum bs g e = bound (charge cap sum 6) _ g e
      λ s p q. bound (items cap n f (suc (length bs)) end s bs) _ g q
      λ x q r. rw (← good-inj _ _ r) (items-le f (h f refl) (suc (length bs)) end s bs x q)

  flow_map-le : (inside : Option Reader) → AllTake inside → (sum : ℕ) (bs : List ℕ) (g : Got Yaml) → flow_map cap n inside sum bs ≡ good g → length g.2 ≤ length bs
  unfolding flow_map stop
  flow_map-le none h sum bs g e = refused≢good g 20 n 0 e
  flow_map-le (some f) h sum bs g e = bound (charge cap sum 6) _ g e
      λ s p q. bound (entries cap n f (suc (length bs)) done s bs) _ g q
      λ x q r. rw (← good-inj _ _ r) (entries-le f (h f refl) (suc (length bs)) done s bs x q)

  string-le : (role : Role) (sum k : ℕ) (t : Answer (List ℕ × List ℕ)) (g : Got Yaml) → ((g : List ℕ × List ℕ) → t ≡ good g → length g.1 ≤ k)
      → string cap n role sum t ≡ good g → length g.2 ≤ k
  unfolding string
  string-le role sum k t g h e = bound t _ g e λ x p q. rw (scalar-rest role sum (str x.0) x.1 g q) (h x p)

  -- behind the first byte, unless it is plain text, of which `k` bytes are left
  node-le : (inside : Option Reader) → AllTake inside → (in_flow : Bool) (role : Role) (sum b : ℕ) (bs : List ℕ) (g : Got Yaml) (k : ℕ) → length bs ≤ k
      → length (plain_text in_flow (b ∷ bs)).1 ≤ k → node cap n inside in_flow role sum (b ∷ bs) ≡ good g → length g.2 ≤ k
  unfolding node plain stop
  node-le inside h in_flow role sum b bs g k m l e =
      chosen (eqb b (ch "{")) _ _ e (λ _ q. omega (arith, flow_map-le inside h sum bs g q))
      λ _ p. chosen (eqb b (ch "[")) _ _ p (λ _ q. omega (arith, flow_seq-le inside h sum bs g q))
      λ _ p. chosen (eqb b (ch "\"")) _ _ p (λ _ q. omega (arith, string-le role sum (length bs) _ g (double-le false bs) q))
      λ _ p. chosen (eqb b (ch "'")) _ _ p (λ _ q. omega (arith, string-le role sum (length bs) _ g (single-le false bs) q))
      λ _ p. chosen (eqb b (ch "&") || eqb b (ch "*") || eqb b (ch "!")) _ _ p (λ _ q. refused≢good g 7 n 0 q)
      λ _ p. rw (scalar-rest role sum _ _ g p) l

  node-takes : (inside : Option Reader) → AllTake inside → (in_flow : Bool) → Takes (node cap n inside in_flow)
  unfolding node
  node-takes inside h in_flow = record {
    some_left = left;
    takes = λ role sum b bs g s e. node-le inside h in_flow role sum b bs g (length bs) (omega arith) (plain-lt in_flow b bs (and-false in_flow s)) e;
  }
    where
      and-false : (t : Bool) {u : Bool} → u ≡ false → t && u ≡ false
      and-false true e = e
      and-false false e = refl

      left : (role : Role) (sum : ℕ) (bs : List ℕ) (g : Got Yaml) → node cap n inside in_flow role sum bs ≡ good g → length g.2 ≤ length bs
      left role sum [] g e = rw (scalar-rest role sum null [] g e) (omega arith)
      left role sum (b ∷ bs) g e = node-le inside h in_flow role sum b bs g (suc (length bs)) (omega arith) (plain-le in_flow (b ∷ bs)) e

  pub value-takes : (levels : ℕ) (in_flow : Bool) → Takes (value cap n levels in_flow)
  unfolding value
  value-takes zero in_flow = node-takes none (λ f p. absurd (none-ne-some f p)) in_flow
  value-takes (suc l) in_flow = node-takes (some _) (λ f p. subst Takes (some-injective _ _ p) (value-takes l true)) in_flow

  -- ---- the count: with at least so many turns, any number of them gives the same

  unfoldable pub first : Items → ℕ
  first end = 1
  first (y ▸ ys) = 0

  pub first-snoc : (ys : Items) (y : Yaml) → first (ys ◂ y) ≡ 0
  unfolding first ◌◂◌
  first-snoc end y = refl
  first-snoc (x ▸ xs) y = refl

  pub first-le : (ys : Items) → first ys ≤ 1
  unfolding first
  first-le end = omega arith
  first-le (y ▸ ys) = omega arith

  -- a turn leaves less: either a byte is taken, or the first item is put before a comma
  pub turn-less : (b : ℕ) (bs : List ℕ) (got : Items) → eqb b (ch "]") ≡ false → eqb b (ch ",") && not (no_item got) ≡ false → stuck b bs ≡ false
      → (stops_plain b bs ≡ false) ⊎ (first got ≡ 1)
  unfolding stuck stops_plain ends_item no_item first
  turn-less b bs end e f g = inr refl
  turn-less b bs (y ▸ ys) e f g = inl (go (eqb b (ch ",")) (eqb b (ch "}")) (eqb b (ch "]")) (eqb b (ch ":") && ends_colon bs) e f g)
    where
      go : (c d r k : Bool) → r ≡ false → c && true ≡ false → d || k ≡ false → c || d || r || k ≡ false
      go false false false false e f g = refl
      go false false false true e f g = g
      go false false true k e f g = e
      go false true r k e f g = g
      go true d r k e f g = f

  -- with nothing left, no count matters
  pub items-none : (inside : Reader) (t : ℕ) (got : Items) (sum : ℕ) → items cap n inside t got sum [] ≡ stop cap n 10
  unfolding items item_turn skip_spaces
  items-none inside zero got sum = refl
  items-none inside (suc t) got sum = refl

  pub items-enough : (inside : Reader) → Takes inside → (t u : ℕ) (got : Items) (sum : ℕ) (bs : List ℕ) → length bs + first got ≤ t → length bs + first got ≤ u
      → items cap n inside t got sum bs ≡ items cap n inside u got sum bs
  unfolding items item_turn
  items-enough inside h zero u got sum [] p q = sym (items-none inside u got sum)
  items-enough inside h zero u got sum (b ∷ bs) p q = absurd (omega arith)
  items-enough inside h (suc t) zero got sum [] p q = items-none inside (suc t) got sum
  items-enough inside h (suc t) zero got sum (b ∷ bs) p q = absurd (omega arith)
  items-enough inside h (suc t) (suc u) got sum bs p q = turns (skip_spaces bs) (skip-le bs) (λ g s r a b. items-enough inside h t u g s r a b)
    where
      turns : (cs : List ℕ) → length cs ≤ length bs
          → ((g : Items) (s : ℕ) (r : List ℕ) → length r + first g ≤ t → length r + first g ≤ u → items cap n inside t g s r ≡ items cap n inside u g s r)
          → item_turn cap n inside (λ g s r. items cap n inside t g s r) got sum cs ≡ item_turn cap n inside (λ g s r. items cap n inside u g s r) got sum cs
      turns [] m ih = refl
      turns (b ∷ cs) m ih =
          if-cong (eqb b (ch "]")) _ _ _ _ (λ _. refl)
          λ e. if-cong (eqb b (ch ",") && not (no_item got)) _ _ _ _ (λ _. ih got sum cs (omega arith) (omega arith))
          λ f. if-cong (stuck b cs) _ _ _ _ (λ _. refl)
          λ g. bind-cong (inside AsValue sum (b ∷ cs)) _ _ λ x k.
          let z : first (got ◂ x.0) ≡ 0 = first-snoc got x.0 in
          ⊎_elim
          (λ s. let w : length x.2 ≤ length cs = h.takes AsValue sum b cs x s k in ih (got ◂ x.0) x.1 x.2 (omega arith) (omega arith))
          (λ s. let w : length x.2 ≤ suc (length cs) = h.some_left AsValue sum (b ∷ cs) x k in ih (got ◂ x.0) x.1 x.2 (omega arith) (omega arith))
          (turn-less b cs got e f g)

  -- so the reading of a flow sequence may be given any larger count
  pub flow_seq-count : (levels t sum : ℕ) (bs : List ℕ) → suc (length bs) ≤ t
      → items cap n (value cap n levels true) (suc (length bs)) end sum bs ≡ items cap n (value cap n levels true) t end sum bs
  unfolding first
  flow_seq-count levels t sum bs h = items-enough (value cap n levels true) (value-takes levels true) (suc (length bs)) t end sum bs (omega arith) (omega arith)

  pub entries_none : (inside : Reader) (t : ℕ) (got : Entries) (sum : ℕ) → entries cap n inside t got sum [] ≡ stop cap n 9
  unfolding entries entry_turn skip_spaces
  entries_none inside zero got sum = refl
  entries_none inside (suc t) got sum = refl

  pub entries-enough : (inside : Reader) → Takes inside → (t u : ℕ) (got : Entries) (sum : ℕ) (bs : List ℕ) → length bs ≤ t → length bs ≤ u
      → entries cap n inside t got sum bs ≡ entries cap n inside u got sum bs
  unfolding entries entry_turn ◌>>◌
  entries-enough inside h zero u got sum [] p q = sym (entries_none inside u got sum)
  entries-enough inside h zero u got sum (b ∷ bs) p q = absurd (omega arith)
  entries-enough inside h (suc t) zero got sum [] p q = entries_none inside (suc t) got sum
  entries-enough inside h (suc t) zero got sum (b ∷ bs) p q = absurd (omega arith)
  entries-enough inside h (suc t) (suc u) got sum bs p q = turns (skip_spaces bs) (skip-le bs) (λ g s r a b. entries-enough inside h t u g s r a b)
    where
      turns : (cs : List ℕ) → length cs ≤ length bs
          → ((g : Entries) (s : ℕ) (r : List ℕ) → length r ≤ t → length r ≤ u → entries cap n inside t g s r ≡ entries cap n inside u g s r)
          → entry_turn cap n inside (λ g s r. entries cap n inside t g s r) got sum cs ≡ entry_turn cap n inside (λ g s r. entries cap n inside u g s r) got sum cs
      turns [] m ih = refl
      turns (b ∷ cs) m ih =
          if-cong (eqb b (ch "}")) _ _ _ _ (λ _. refl)
          λ e. if-cong (eqb b (ch ",") && not (no_entry got)) _ _ _ _ (λ _. ih got sum cs (omega arith) (omega arith))
          λ f. bind-cong (inside AsKey sum (b ∷ cs)) _ _
          λ x kx. bind-cong (given (key_text x.0) 16 n 0) _ _
          λ k kk. bind-cong (behind_colon cap n (skip_spaces x.2)) _ _
          λ r kr. bind-cong (entry_value cap n inside x.1 (skip_spaces r)) _ _
          λ v kv. bind-cong (fresh cap n k got) _ _ λ _ _.
          let w₁ : length x.2 ≤ suc (length cs) = h.some_left AsKey sum (b ∷ cs) x kx in
          let w₂ : length r < length (skip_spaces x.2) = colon-le _ r kr in
          let w₃ : length v.2 ≤ length (skip_spaces r) = entry_value-le inside h x.1 (skip_spaces r) v kv in
          let w₄ : length (skip_spaces x.2) ≤ length x.2 = skip-le x.2 in
          let w₅ : length (skip_spaces r) ≤ length r = skip-le r in
          ih (add got k v.0) v.1 v.2 (omega arith) (omega arith)
