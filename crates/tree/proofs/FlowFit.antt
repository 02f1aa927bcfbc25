-- A flow value that is read with `l` levels left fits `l` levels. Assumes nothing.
use Rattle.std.proofs.Common.{◌≡◌, refl, sym, subst, ℕ, zero, suc, ◌≤◌, ◌<◌, arith, List, [], ◌∷◌, Bool, true, false, ◌&&◌, ◌||◌, not, eqb, length}
use Rattle.std.proofs.Math.Option.{Option, none, some, some-injective, none-ne-some}
use Rattle.refusal.specs.Base.{Answer, good, ensure, given, ch}
use Rattle.refusal.proofs.Tools.{good-inj, refused≢good, bound, bound', chosen}
use Rattle.std.proofs.lemmas.Bool.{and_parts}
use Rattle.utf8.proofs.Utf8Laws.{utf8-trim}
use Rattle.item.specs.Tree.{Shape, Node, Yaml, null, str, Items, end, ◌◂◌, no_item, Entries, done, add, no_entry}
use Rattle.scalar.specs.declared.Role.{Role}
use Rattle.scalar.specs.declared.Role.TheVariants.{AsValue, AsKey}
use Rattle.scalar.specs.Scalars.{key_text}
use Rattle.scalar.specs.Read.{cost, Got, Reader, charge, scalar, plain, string, skip_spaces, stop}
use Rattle.flow.specs.Flow.{stuck, item_turn, items, behind_colon, entry_value, entry_turn, entries, flow_seq, flow_map, node, value, flow}
use Rattle.utf8.specs.Utf8.{Utf8}
use Rattle.tree.proofs.Strings.{key-utf8, cut}
use Rattle.tree.proofs.Parts.{known, skip-utf8, plain-utf8, double-utf8, single-utf8}
use Rattle.tree.proofs.Fit.{Fit, fit-null, fit-str, fit-scalar, fit-end, fit-done, fit-snoc, fit-add, fit-seq, fit-dict, Fine, charge-le, was-fresh}

module _ (cap n : ℕ) where
  -- a reader of values
  abbrev pub Reads : ℕ → Reader → Type 0
  Reads l f = (role : Role) (sum : ℕ) (bs : List ℕ) (g : Got Yaml) → Utf8 bs → f role sum bs ≡ good g → Fine cap l Utf8 g

  -- what adds to a collection that was read so far
  abbrev pub Adds : ℕ → {s : Shape} → (Node s → ℕ → List ℕ → Answer (Got (Node s))) → Type 0
  Adds l {s} more = (got : Node s) (sum : ℕ) (bs : List ℕ) (g : Got (Node s)) → Fine cap l Utf8 (got, sum, bs) → more got sum bs ≡ good g → Fine cap l Utf8 g

  scalar-fine : (l : ℕ) (role : Role) (sum : ℕ) (y : Yaml) (rest : List ℕ) (g : Got Yaml) → Fit l y → Utf8 rest → scalar cap n role sum y rest ≡ good g → Fine cap l Utf8 g
  unfolding scalar
  scalar-fine l role sum y rest g h u e = bound (charge cap sum (cost role y)) _ g e
      λ s p q. rw (← good-inj _ _ q) (record { tree = h; sum = charge-le cap sum (cost role y) s p; left = u })

  behind : {l : ℕ} {s : Shape} {y : Node s} {sum b : ℕ} {bs : List ℕ} (c : ℕ) → c < 0x80 → eqb b c ≡ true → Fine cap l Utf8 (y, sum, b ∷ bs) → Fine cap l Utf8 (y, sum, bs)
  behind {b = b} {bs = bs} c h e f = record { tree = f.tree; sum = f.sum; left = (cut [] b bs (known b c h e) f.left).1 }

  skipped : {l : ℕ} {s : Shape} {y : Node s} {sum : ℕ} {bs : List ℕ} → Fine cap l Utf8 (y, sum, bs) → Fine cap l Utf8 (y, sum, skip_spaces bs)
  skipped {bs = bs} f = record { tree = f.tree; sum = f.sum; left = skip-utf8 bs f.left }

  module _ (l : ℕ) (inside : Reader) (h : Reads l inside) where
    -- ---- sequences: of a turn, then of all

    item_turn-fine : (more : Items → ℕ → List ℕ → Answer (Got Items)) → Adds l more → Adds l (item_turn cap n inside more)
    unfolding item_turn stop
    item_turn-fine more ih got sum [] g f e = refused≢good g 10 n 0 e
    item_turn-fine more ih got sum (b ∷ bs) g f e =
        chosen (eqb b (ch "]")) _ _ e (λ k q. rw (← good-inj _ _ q) (behind (ch "]") (omega arith) k f))
        λ _ p. chosen (eqb b (ch ",") && not (no_item got)) _ _ p (λ k q. ih got sum bs g (behind (ch ",") (omega arith) (and_parts (eqb b (ch ",")) (not (no_item got)) k).0 f) q)
        λ _ p. chosen (stuck b bs) _ _ p (λ _ q. refused≢good g 19 n 0 q)
        λ _ p. bound (inside AsValue sum (b ∷ bs)) _ g p λ x q r.
        let v = h AsValue sum (b ∷ bs) x f.left q in
        ih (got ◂ x.0) x.1 x.2 g (record { tree = fit-snoc f.tree v.tree; sum = v.sum; left = v.left }) r

    pub items-fine : (t : ℕ) → Adds l (items cap n inside t)
    unfolding items stop
    items-fine zero got sum bs g f e = refused≢good g 10 n 0 e
    items-fine (suc t) got sum bs g f e = item_turn-fine _ (items-fine t) got sum (skip_spaces bs) g (skipped f) e

    -- ---- mappings

    colon-utf8 : (bs g : List ℕ) → Utf8 bs → behind_colon cap n bs ≡ good g → Utf8 g
    unfolding behind_colon stop
    colon-utf8 [] g u e = refused≢good g 17 n 0 e
    colon-utf8 (b ∷ bs) g u e = chosen (eqb b (ch ":")) _ _ e
        (λ k q. rw (← good-inj _ _ q) (cut [] b bs (known b (ch ":") (omega arith) k) u).1) (λ _ q. refused≢good g 17 n 0 q)

    entry_value-fine : (sum : ℕ) (bs : List ℕ) (g : Got Yaml) → Utf8 bs → entry_value cap n inside sum bs ≡ good g → Fine cap l Utf8 g
    unfolding entry_value
    entry_value-fine sum [] g u e = h AsValue sum [] g u e
    entry_value-fine sum (b ∷ bs) g u e =
        chosen (eqb b (ch ",") || eqb b (ch "}")) _ _ e (λ _ q. scalar-fine l AsValue sum null (b ∷ bs) g (fit-null l) u q) (λ _ q. h AsValue sum (b ∷ bs) g u q)

    entry_turn-fine : (more : Entries → ℕ → List ℕ → Answer (Got Entries)) → Adds l more → Adds l (entry_turn cap n inside more)
    unfolding entry_turn stop
    entry_turn-fine more ih got sum [] g f e = refused≢good g 9 n 0 e
    entry_turn-fine more ih got sum (b ∷ bs) g f e =
        chosen (eqb b (ch "}")) _ _ e (λ k q. rw (← good-inj _ _ q) (behind (ch "}") (omega arith) k f))
        λ _ p. chosen (eqb b (ch ",") && not (no_entry got)) _ _ p (λ k q. ih got sum bs g (behind (ch ",") (omega arith) (and_parts (eqb b (ch ",")) (not (no_entry got)) k).0 f) q)
        λ _ p. bound (inside AsKey sum (b ∷ bs)) _ g p
        λ x q p. bound (given (key_text x.0) 16 n 0) _ g p
        λ k qk p. bound (behind_colon cap n (skip_spaces x.2)) _ g p
        λ r qr p. bound (entry_value cap n inside x.1 (skip_spaces r)) _ g p
        λ v qv p. was-fresh cap n k got _ g p
        λ new p.
        let a = h AsKey sum (b ∷ bs) x f.left q in
        let w = entry_value-fine x.1 (skip_spaces r) v (skip-utf8 r (colon-utf8 _ r (skip-utf8 x.2 a.left) qr)) qv in
        ih (add got k v.0) v.1 v.2 g (record { tree = fit-add k f.tree new (key-utf8 x.0 k 16 n 0 a.tree.strings qk) w.tree; sum = w.sum; left = w.left }) p

    pub entries-fine : (t : ℕ) → Adds l (entries cap n inside t)
    unfolding entries stop
    entries-fine zero got sum bs g f e = refused≢good g 9 n 0 e
    entries-fine (suc t) got sum bs g f e = entry_turn-fine _ (entries-fine t) got sum (skip_spaces bs) g (skipped f) e

  -- ---- a value: what is inside has one level less

  abbrev pub Deeper : ℕ → Option Reader → Type 0
  Deeper zero o = o ≡ none
  Deeper (suc l) o = (f : Reader) → o ≡ some f → Reads l f

  flow_seq-fine : (l : ℕ) (o : Option Reader) → Deeper l o → (sum : ℕ) (bs : List ℕ) (g : Got Yaml) → Utf8 bs → flow_seq cap n o sum bs ≡ good g → Fine cap l Utf8 g
  unfolding flow_seq stop
  flow_seq-fine l none h sum bs g u e = refused≢good g 20 n 0 e
  flow_seq-fine zero (some f) h sum bs g u e = absurd (none-ne-some f (sym h))
  flow_seq-fine (suc l) (some f) h sum bs g u e = bound (charge cap sum 6) _ g e
      λ s p q. bound (items cap n f (suc (length bs)) end s bs) _ g q
      λ x q r.
      let v = items-fine l f (h f refl) (suc (length bs)) end s bs x (record { tree = fit-end; sum = charge-le cap sum 6 s p; left = u }) q in
      rw (← good-inj _ _ r) (record { tree = fit-seq v.tree; sum = v.sum; left = v.left })

  flow_map-fine : (l : ℕ) (o : Option Reader) → Deeper l o → (sum : ℕ) (bs : List ℕ) (g : Got Yaml) → Utf8 bs → flow_map cap n o sum bs ≡ good g → Fine cap l Utf8 g
  unfolding flow_map stop
  flow_map-fine l none h sum bs g u e = refused≢good g 20 n 0 e
  flow_map-fine zero (some f) h sum bs g u e = absurd (none-ne-some f (sym h))
  flow_map-fine (suc l) (some f) h sum bs g u e = bound (charge cap sum 6) _ g e
      λ s p q. bound (entries cap n f (suc (length bs)) done s bs) _ g q
      λ x q r.
      let v = entries-fine l f (h f refl) (suc (length bs)) done s bs x (record { tree = fit-done; sum = charge-le cap sum 6 s p; left = u }) q in
      rw (← good-inj _ _ r) (record { tree = fit-dict v.tree; sum = v.sum; left = v.left })

  string-fine : (l : ℕ) (role : Role) (sum : ℕ) (t : Answer (List ℕ × List ℕ)) (g : Got Yaml)
      → ((x : List ℕ × List ℕ) → t ≡ good x → Utf8 x.0 × Utf8 x.1) → string cap n role sum t ≡ good g → Fine cap l Utf8 g
  unfolding string
  string-fine l role sum t g h e = bound t _ g e λ x p q. scalar-fine l role sum (str x.0) x.1 g (fit-str l x.0 (h x p).0) (h x p).1 q

  pub node-fine : (l : ℕ) (o : Option Reader) → Deeper l o → (in_flow : Bool) → Reads l (node cap n o in_flow)
  unfolding node plain stop
  node-fine l o h in_flow role sum [] g u e = scalar-fine l role sum null [] g (fit-null l) u e
  node-fine l o h in_flow role sum (b ∷ bs) g u e =
      chosen (eqb b (ch "{")) _ _ e (λ k q. flow_map-fine l o h sum bs g (inner (ch "{") (omega arith) k) q)
      λ _ p. chosen (eqb b (ch "[")) _ _ p (λ k q. flow_seq-fine l o h sum bs g (inner (ch "[") (omega arith) k) q)
      λ _ p. chosen (eqb b (ch "\"")) _ _ p (λ k q. string-fine l role sum _ g (λ x. double-utf8 cap n bs x (inner (ch "\"") (omega arith) k)) q)
      λ _ p. chosen (eqb b (ch "'")) _ _ p (λ k q. string-fine l role sum _ g (λ x. single-utf8 cap n bs x (inner (ch "'") (omega arith) k)) q)
      λ _ p. chosen (eqb b (ch "&") || eqb b (ch "*") || eqb b (ch "!")) _ _ p (λ _ q. refused≢good g 7 n 0 q)
      λ _ p. let t = plain-utf8 in_flow (b ∷ bs) u in scalar-fine l role sum _ _ g (fit-scalar l _ (utf8-trim _ t.0)) t.1 p
    where
      inner : (c : ℕ) → c < 0x80 → eqb b c ≡ true → Utf8 bs
      inner c k e = (cut [] b bs (known b c k e) u).1

  pub value-fine : (l : ℕ) (in_flow : Bool) → Reads l (value cap n l in_flow)
  unfolding value
  value-fine zero in_flow role sum bs g u e = node-fine 0 none refl in_flow role sum bs g u e
  value-fine (suc l) in_flow role sum bs g u e =
      node-fine (suc l) (some (λ r s b. value cap n l true r s b)) (λ f p. subst (Reads l) (some-injective _ _ p) (value-fine l true)) in_flow role sum bs g u e

  -- a text that is one value
  pub flow-fine : (l : ℕ) (role : Role) (sum : ℕ) (t : List ℕ) (g : Yaml × ℕ) → Utf8 t → flow cap n l role sum t ≡ good g → Fit l g.0 × (g.1 ≤ cap)
  unfolding flow
  flow-fine l role sum t g u e = bound (value cap n l false role sum (skip_spaces t)) _ g e
      λ x p q. bound' (ensure _ 8 n 0) _ g q
      λ r. let v = value-fine l false role sum (skip_spaces t) x (skip-utf8 t u) p in rw (← good-inj _ _ r) (v.tree, v.sum)
