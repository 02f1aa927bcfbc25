-- Flow nodes of the grammar that document 01 keeps are read as YAML reads them: one induction over derivations. Assumes nothing.
use Rattle.std.proofs.Common.{◌≡◌, refl, sym, ap, ◌∙◌, subst, ℕ, zero, suc, ◌+◌, ◌≤◌, ◌<◌, arith, List, [], ◌∷◌, ◌++◌, append_assoc, append-nil, true, false, T, eqb, length, length-append, le-leb}
use Rattle.std.proofs.Math.Option.{none, some}
use Rattle.refusal.specs.Base.{good, ◌>>=◌, ◌>>◌, ensure, maybe, bytes, empty}
use Rattle.utf8.specs.White.{trim}
use Rattle.item.specs.Tree.{many, keyed, Yaml, null, seq, dict, Items, end, ◌▸◌, ◌◂◌, Entries, done, pair, add, has_key, levels}
use Rattle.item.proofs.Size.{size}
use Rattle.item.proofs.Joined.{◌⋈◌, add-more, none_more}
use Rattle.scalar.specs.Scalars.{key_text, scalar_of}
use Rattle.scalar.specs.declared.Role.{Role}
use Rattle.scalar.specs.declared.Role.TheVariants.{AsValue, AsKey}
use Rattle.scalar.specs.Read.{charge, skip_spaces}
use Rattle.flow.specs.Flow.{node, value, flow_seq, flow_map, items, entries, flow}
use Rattle.flow.proofs.Sums.{weight}
use Rattle.yaml.specs.Characters.{among, spaces}
use Rattle.yaml.specs.Scalars.{Context, flow_out, flow_in, Plain}
use Rattle.yaml.specs.Scalars as Sc
use Rattle.yaml.specs.Represent.{Graph, Rep, as_yaml}
use Rattle.yaml.specs.Flow.{Flow, f_plain, f_quoted, f_seq, f_map, Quoted, q_double, q_single, FlowItems, s_close, s_last, s_more, FlowPairs, FlowPair, p_value, p_adjacent, p_null, json_like}
use Rattle.yaml.specs.Flow as F
use Rattle.yaml.specs.Kept.{KeptFlow, KeptItems, KeptPairs, KeptPair}
use Rattle.yaml.proofs.Tests.{by-each}
use Rattle.yaml.proofs.Trees.{held, some-eq, fresh, pair_held, scalar-levels, key-size}
use Rattle.yaml.proofs.Grow.{Apart, apart-add, apart-done, ◌▸▸◌, snoc-more, no_more}
use Rattle.yaml.proofs.CoreLaws.{resolves}
use Rattle.yaml.proofs.PlainReads.{first_plain, plain-all}
use Rattle.yaml.proofs.FlowTurns.{Head, head_of, head-long, skip-none, skip-run, skip-not, follows-close, follows-comma, follows-colon, follows-key}
use Rattle.yaml.proofs.FlowTurns.{Ends, ends_close, ends-comma, Behind, inside, shut, shut-colon, ReadsTo, NodeTo, inside_of, value-node, plain-to}
use Rattle.yaml.proofs.FlowTurns.{plain-node, quoted-node, inner, items-skip, items-close, last-item, next-item, PairTo, pair-value, pair-null}
use Rattle.yaml.proofs.FlowTurns.{entries-skip, entries-close, last-pair, next-pair}

-- ---- texts put together

-- two more bytes than `u`
two-more : (u : ℕ) {X : Type 0} → 2 ≤ u → ((w : ℕ) → u ≡ suc (suc w) → X) → X
two-more zero h k = absurd (omega arith)
two-more (suc zero) h k = absurd (omega arith)
two-more (suc (suc w)) h k = k w refl

inside-length : (a t r : List ℕ) → length t ≤ suc (length ((a ++ t) ++ r))
inside-length a t r = omega (arith, length-append (a ++ t) r, length-append a t)

regroup₂ : (t a : List ℕ) (b : ℕ) (r : List ℕ) → (t ++ (a ++ (b ∷ []))) ++ r ≡ t ++ (a ++ (b ∷ r))
regroup₂ t a b r = simp append_assoc

regroup₃ : (t a m u : List ℕ) (b : ℕ) (r : List ℕ) → (t ++ (a ++ (b ∷ (m ++ u)))) ++ r ≡ t ++ (a ++ (b ∷ (m ++ (u ++ r))))
regroup₃ t a m u b r = simp append_assoc

long₂ : (t a : List ℕ) (b : ℕ) → 0 < length t → 2 ≤ length (t ++ (a ++ (b ∷ [])))
long₂ t a b h = omega (arith, length-append t (a ++ (b ∷ [])), length-append a (b ∷ []))

long₃ : (t a m u : List ℕ) (b : ℕ) → 0 < length t → 2 + length u ≤ length (t ++ (a ++ (b ∷ (m ++ u))))
long₃ t a m u b h = omega (arith, length-append t (a ++ (b ∷ (m ++ u))), length-append a (b ∷ (m ++ u)), length-append m u)

pair-long : {t : List ℕ} {a v : Rep} → FlowPair t a v → 0 < length t
pair-long (p_value {t = t} {u = u} a m d f q) = rw q (omega (arith, long₃ t (spaces a) (spaces (suc m)) u 58 (head-long (head_of d))))
pair-long (p_adjacent {t = t} {u = u} a d j f q) = rw q (omega (arith, long₃ t (spaces a) [] u 58 (head-long (head_of d))))
pair-long (p_null {t = t} a d q) = rw q (omega (arith, long₂ t (spaces a) 58 (head-long (head_of d))))

module _ (cap n : ℕ) where
  -- ---- what is to be read

  -- a pair of a mapping
  abbrev EntryTo : List ℕ → List ℕ → Yaml → Type 0
  EntryTo t k v = (l sum : ℕ) (r : List ℕ) → levels v ≤ l → sum + (6 + length k + size v) ≤ cap → Ends r → PairTo cap n l sum t r k v

  -- items and entries behind others that were read, with what closes them
  abbrev ItemsTo : List ℕ → Items → Type 0
  ItemsTo t ys = (l u : ℕ) (got : Items) (sum : ℕ) (r : List ℕ) → levels ys ≤ l → sum + size ys ≤ cap → length t ≤ u
      → items cap n (inner cap n l) u got sum (t ++ r) ≡ good (got ▸▸ ys, sum + size ys, r)

  abbrev EntriesTo : List ℕ → Entries → Type 0
  EntriesTo t es = (l u : ℕ) (got : Entries) (sum : ℕ) (r : List ℕ) → levels es ≤ l → sum + size es ≤ cap → Apart got es → length t ≤ u
      → entries cap n (inner cap n l) u got sum (t ++ r) ≡ good (got ⋈ es, sum + size es, r)

  -- ---- collections

  weight-seq : (role : Role) (ys : Items) → weight role (seq ys) ≡ 6 + size ys
  weight-seq AsValue ys = refl
  weight-seq AsKey ys = refl

  weight-dict : (role : Role) (es : Entries) → weight role (dict es) ≡ 6 + size es
  weight-dict AsValue es = refl
  weight-dict AsKey es = refl

  -- a collection, from what its loop gives
  seq-to : (l : ℕ) (role : Role) (sum : ℕ) (bs r : List ℕ) (ys : Items) → sum + weight role (seq ys) ≤ cap
      → items cap n (inner cap n l) (suc (length bs)) end (sum + 6) bs ≡ good (ys, sum + 6 + size ys, r)
      → value cap n (suc l) true role sum (91 ∷ bs) ≡ good (seq ys, sum + weight role (seq ys), r)
  unfolding value node flow_seq charge ◌>>=◌
  seq-to l role sum bs r ys h e =
      rw (le-leb (sum + 6) cap (omega (arith, weight-seq role ys)), e) (ap (λ (s : ℕ). good (seq ys, s, r)) (omega (arith, weight-seq role ys)))

  map-to : (l : ℕ) (role : Role) (sum : ℕ) (bs r : List ℕ) (es : Entries) → sum + weight role (dict es) ≤ cap
      → entries cap n (inner cap n l) (suc (length bs)) done (sum + 6) bs ≡ good (es, sum + 6 + size es, r)
      → value cap n (suc l) true role sum (123 ∷ bs) ≡ good (dict es, sum + weight role (dict es), r)
  unfolding value node flow_map charge ◌>>=◌
  map-to l role sum bs r es h e =
      rw (le-leb (sum + 6) cap (omega (arith, weight-dict role es)), e) (ap (λ (s : ℕ). good (dict es, s, r)) (omega (arith, weight-dict role es)))

  seq-reads : (x : Context) (k : ℕ) (t : List ℕ) (ys : Items) → ItemsTo t ys → NodeTo cap n x (91 ∷ spaces k ++ t) (seq ys)
  unfolding ◌▸▸◌ levels
  seq-reads x k t ys ih zero role sum r v c b = absurd (omega arith)
  seq-reads x k t ys ih (suc l) role sum r v c b = record {
    left = r;
    is = seq-to l role sum ((spaces k ++ t) ++ r) r ys c
        (ap (items cap n (inner cap n l) (suc (length ((spaces k ++ t) ++ r))) end (sum + 6)) (append_assoc (spaces k) t r)
        ∙ items-skip cap n l (suc (length ((spaces k ++ t) ++ r))) end (sum + 6) (spaces k ++ (t ++ r)) (t ++ r) (skip-run k (t ++ r))
        ∙ ih l (suc (length ((spaces k ++ t) ++ r))) end (sum + 6) r (omega arith) (omega (arith, weight-seq role ys)) (inside-length (spaces k) t r));
    skip = refl;
  }

  map-reads : (x : Context) (k : ℕ) (t : List ℕ) (es : Entries) → EntriesTo t es → NodeTo cap n x (123 ∷ spaces k ++ t) (dict es)
  unfolding ◌⋈◌ levels
  map-reads x k t es ih zero role sum r v c b = absurd (omega arith)
  map-reads x k t es ih (suc l) role sum r v c b = record {
    left = r;
    is = map-to l role sum ((spaces k ++ t) ++ r) r es c
        (ap (entries cap n (inner cap n l) (suc (length ((spaces k ++ t) ++ r))) done (sum + 6)) (append_assoc (spaces k) t r)
        ∙ entries-skip cap n l (suc (length ((spaces k ++ t) ++ r))) done (sum + 6) (spaces k ++ (t ++ r)) (t ++ r) (skip-run k (t ++ r))
        ∙ ih l (suc (length ((spaces k ++ t) ++ r))) done (sum + 6) r (omega arith) (omega (arith, weight-dict role es)) (apart-done es) (inside-length (spaces k) t r));
    skip = refl;
  }

  close-items : ItemsTo (93 ∷ []) end
  close-items l zero got sum r v c m = absurd (omega arith)
  close-items l (suc u) got sum r v c m = items-close cap n l u got sum r ∙ rw (no_more got) (ap (λ (s : ℕ). good (got, s, r)) (omega arith))

  last-items : (k : ℕ) (t : List ℕ) (y : Yaml) → Head t → NodeTo cap n flow_in t y
      → ItemsTo (t ++ (spaces k ++ (93 ∷ []))) (y ▸ end)
  unfolding levels
  last-items k t y hd ih l u got sum r v c m = two-more u (omega (arith, long₂ t (spaces k) 93 (head-long hd))) λ w q.
      rw (q, regroup₂ t (spaces k) 93 r)
      (last-item cap n l w k got sum t r y hd (ih l AsValue sum (spaces k ++ (93 ∷ r)) (omega arith) (omega arith) (inside refl (follows-close k r)))
      ∙ rw (← snoc-more got y end, no_more (got ◂ y)) (ap (λ (s : ℕ). good (got ◂ y, s, r)) (omega arith)))

  more-items : (k j : ℕ) (t u' : List ℕ) (y : Yaml) (ys : Items) → Head t → NodeTo cap n flow_in t y
      → ItemsTo u' ys → ItemsTo (t ++ (spaces k ++ (44 ∷ (spaces j ++ u')))) (y ▸ ys)
  unfolding levels
  more-items k j t u' y ys hd ih ih' l u got sum r v c m = two-more u (omega (arith, long₃ t (spaces k) (spaces j) u' 44 (head-long hd))) λ w q.
      rw (q, regroup₃ t (spaces k) (spaces j) u' 44 r)
      (next-item cap n l w k j got sum t (u' ++ r) y hd (ih l AsValue sum (spaces k ++ (44 ∷ (spaces j ++ (u' ++ r)))) (omega arith) (omega arith) (inside refl (follows-comma k (spaces j ++ (u' ++ r)))))
      ∙ ih' l w (got ◂ y) (sum + size y) r (omega arith) (omega arith) (omega (arith, long₃ t (spaces k) (spaces j) u' 44 (head-long hd)))
      ∙ rw (snoc-more got y ys) (ap (λ (s : ℕ). good (got ▸▸ (y ▸ ys), s, r)) (omega arith)))

  close-entries : EntriesTo (125 ∷ []) done
  close-entries l zero got sum r v c a m = absurd (omega arith)
  close-entries l (suc u) got sum r v c a m = entries-close cap n l u got sum r ∙ rw (none_more got) (ap (λ (s : ℕ). good (got, s, r)) (omega arith))

  last-entries : (k : ℕ) (t j : List ℕ) (y : Yaml) → 0 < length t → EntryTo t j y
      → EntriesTo (t ++ (spaces k ++ (125 ∷ []))) (pair j y done)
  unfolding levels
  last-entries k t j y hd ih l u got sum r v c a m = two-more u (omega (arith, long₂ t (spaces k) 125 hd)) λ w q.
      rw (q, regroup₂ t (spaces k) 125 r)
      (last-pair cap n l w k got sum t r j y a.0 (ih l sum (spaces k ++ (125 ∷ r)) (omega arith) (omega arith) (ends_close k r))
      ∙ rw (← add-more got j y done, none_more (add got j y)) (ap (λ (s : ℕ). good (add got j y, s, r)) (omega arith)))

  more-entries : (k i : ℕ) (t u' j : List ℕ) (y : Yaml) (es : Entries) → 0 < length t → EntryTo t j y
      → has_key j es ≡ false → EntriesTo u' es → EntriesTo (t ++ (spaces k ++ (44 ∷ (spaces i ++ u')))) (pair j y es)
  unfolding levels
  more-entries k i t u' j y es hd ih z ih' l u got sum r v c a m = two-more u (omega (arith, long₃ t (spaces k) (spaces i) u' 44 hd)) λ w q.
      rw (q, regroup₃ t (spaces k) (spaces i) u' 44 r)
      (next-pair cap n l w k i got sum t (u' ++ r) j y a.0 (ih l sum (spaces k ++ (44 ∷ (spaces i ++ (u' ++ r)))) (omega arith) (omega arith) (ends-comma k (spaces i ++ (u' ++ r))))
      ∙ ih' l w (add got j y) (sum + (6 + length j + size y)) r (omega arith) (omega arith) (apart-add got j y es z a.1) (omega (arith, long₃ t (spaces k) (spaces i) u' 44 hd))
      ∙ rw (add-more got j y es) (ap (λ (s : ℕ). good (got ⋈ (pair j y es), s, r)) (omega arith)))

  -- a key and a value, by what may stand behind the key; and a key alone
  pair_of : (a m : ℕ) (t u k : List ℕ) (y v : Yaml) → Head t → Head u → key_text y ≡ some k → ((r : List ℕ) → Behind flow_in t (spaces a ++ (58 ∷ (spaces m ++ r)))) → NodeTo cap n flow_in t y → NodeTo cap n flow_in u v
      → EntryTo (t ++ (spaces a ++ (58 ∷ (spaces m ++ u)))) k v
  pair_of a m t u k y v hd hu e b ih ih' l sum r g c f =
      let w : weight AsKey y ≡ 6 + length k = key-size y k e in
      let z : levels y ≡ 0 = scalar-levels y k e in
      pair-value cap n l sum t u r k y v a m hd e (ih l AsKey sum (spaces a ++ (58 ∷ (spaces m ++ (u ++ r)))) (omega arith) (omega arith) (b (u ++ r))) hu
      (ih' l AsValue (sum + weight AsKey y) r g (omega arith) (inside refl f.follows))

  pair-alone : (a : ℕ) (t k : List ℕ) (y : Yaml) → Head t → key_text y ≡ some k → NodeTo cap n flow_in t y → EntryTo (t ++ (spaces a ++ (58 ∷ []))) k null
  pair-alone a t k y hd e ih l sum r g c f =
      let w : weight AsKey y ≡ 6 + length k = key-size y k e in
      let z : levels y ≡ 0 = scalar-levels y k e in
      pair-null cap n l sum t r k y a hd e (ih l AsKey sum (spaces a ++ (58 ∷ r)) (omega arith) (omega arith) (inside refl (follows-key a r f))) f (omega arith)

  -- ---- the induction

  mutual
    unfolding KeptFlow KeptItems KeptPairs KeptPair as_yaml maybe levels

    reads : {c : Context} {t : List ℕ} {r : Rep} (d : Flow c t r) → KeptFlow d → (y : Yaml) → as_yaml r ≡ some y → NodeTo cap n c t y
    reads (f_plain {c = c} p s) k y e = plain-node cap n c p k.0 y (resolves s k.1 y e)
    reads (f_quoted {c = c} {s = s} q) k y e = subst (NodeTo cap n c s) (some-eq e) (quoted-node cap n c q)
    reads (f_seq {c = c} {s = s} {t = t} {rs = rs} m d q) k y e =
        let h = held (as_yaml rs) (λ ys. some (seq ys)) y e in
        subst (NodeTo cap n c s) (some-eq h.next) (rw q (seq-reads c m t h.value (reads-items d k h.value h.is)))
    reads (f_map {c = c} {s = s} {t = t} {ps = ps} m d q) k y e =
        let h = held (as_yaml ps) (λ es. some (dict es)) y e in
        subst (NodeTo cap n c s) (some-eq h.next) (rw q (map-reads c m t h.value (reads-entries d k h.value h.is)))

    reads-items : {t : List ℕ} {rs : Graph many} (d : FlowItems t rs) → KeptItems d → (ys : Items) → as_yaml rs ≡ some ys → ItemsTo t ys
    reads-items (s_close {s = s} q) k ys e = subst (ItemsTo s) (some-eq e) (rw q close-items)
    reads-items (s_last {s = s} {t = t} {r = r} m d q) k ys e =
        let h = held (as_yaml r) (λ y. some (y ▸ end)) ys e in
        subst (ItemsTo s) (some-eq h.next) (rw q (last-items m t h.value (head_of d) (reads d k h.value h.is)))
    reads-items (s_more {s = s} {t = t} {u = u} {r = r} {rs = rs} m j d ds q) k ys e =
        let h = held (as_yaml r) (λ y. maybe (as_yaml rs) none λ ys. some (y ▸ ys)) ys e in
        let g = held (as_yaml rs) (λ ys. some (h.value ▸ ys)) ys h.next in
        subst (ItemsTo s) (some-eq g.next) (rw q (more-items m j t u h.value g.value (head_of d) (reads d k.0 h.value h.is) (reads-items ds k.1 g.value g.is)))

    reads-entries : {t : List ℕ} {ps : Graph keyed} (d : FlowPairs t ps) → KeptPairs d → (es : Entries) → as_yaml ps ≡ some es → EntriesTo t es
    reads-entries (F.m_close {s = s} q) k es e = subst (EntriesTo s) (some-eq e) (rw q close-entries)
    reads-entries (F.m_last {s = s} {t = t} {k = a} {v = v} m d q) k es e =
        let h = pair_held a v Graph.done es e in
        let g = fresh (has_key h.key h.rest) (pair h.key h.value h.rest) es h.next in
        subst (EntriesTo s) (ap (λ (x : Entries). pair h.key h.value x) (some-eq h.rest_is) ∙ g.1)
        (rw q (last-entries m t h.key h.value (pair-long d) (reads-pair d k h.tree h.key h.value h.key_is h.text_is h.value_is)))
    reads-entries (F.m_more {s = s} {t = t} {u = u} {k = a} {v = v} {ps = ps} m j d ds q) k es e =
        let h = pair_held a v ps es e in
        let g = fresh (has_key h.key h.rest) (pair h.key h.value h.rest) es h.next in
        subst (EntriesTo s) g.1
        (rw q (more-entries m j t u h.key h.value h.rest (pair-long d) (reads-pair d k.0 h.tree h.key h.value h.key_is h.text_is h.value_is) g.0 (reads-entries ds k.1 h.rest h.rest_is)))

    reads-pair : {t : List ℕ} {a v : Rep} (d : FlowPair t a v) → KeptPair d → (x : Yaml) (key : List ℕ) (y : Yaml) → as_yaml a ≡ some x → key_text x ≡ some key → as_yaml v ≡ some y → EntryTo t key y
    reads-pair (p_value {t = t} {u = u} a m d f q) k x key y e h g =
        rw q (pair_of a (suc m) t u key x y (head_of d) (head_of f) h (λ r. inside refl (follows-colon a m r)) (reads d k.0 x e) (reads f k.1 y g))
    reads-pair (p_adjacent {t = t} {u = u} a d j f q) k x key y e h g =
        rw q (pair_of a 0 t u key x y (head_of d) (head_of f) h (λ r. shut-colon flow_in t j a r) (reads d k.0 x e) (reads f k.1 y g))
    reads-pair (p_null {s = s} {t = t} a d q) k x key y e h g = subst (EntryTo s key) (some-eq g) (rw q (pair-alone a t key x (head_of d) h (reads d k x e)))

  -- ---- a text that is one node, outside flow collections

  -- a text that a value is read from, with nothing left but spaces
  flow-is : (l : ℕ) (role : Role) (sum s : ℕ) (t rest : List ℕ) (y : Yaml) → skip_spaces t ≡ t → value cap n l false role sum t ≡ good (y, s, rest) → skip_spaces rest ≡ []
      → flow cap n l role sum t ≡ good (y, s)
  unfolding flow ◌>>=◌ ◌>>◌ ensure empty
  flow-is l role sum s t rest y e h k = rw (e, h, k)

  plain_out : (l : ℕ) (role : Role) (sum : ℕ) {t : List ℕ} (y : Yaml) → Plain flow_out t → trim t ≡ t → scalar_of t ≡ y → sum + weight role y ≤ cap
      → flow cap n l role sum t ≡ good (y, sum + weight role y)
  plain_out l role sum y (Sc.plain {b = b} {t = t} h p) m s c =
      let k = first_plain flow_out b t h in
      flow-is l role sum (sum + weight role y) (b ∷ t) [] y (skip-not b t k.no_space) (plain-to cap n l false role sum b (b ∷ t) t (b ∷ t) [] y k (plain-all (b ∷ t)) m s c) skip-none

  -- other nodes are read as inside
  out-same : (l : ℕ) (role : Role) (sum b : ℕ) (t : List ℕ) → T (json_like (b ∷ t)) → (value cap n l false role sum (b ∷ t) ≡ value cap n l true role sum (b ∷ t)) × (eqb b 32 ≡ false)
  unfolding json_like bytes node
  out-same l role sum b t h =
      let k = by-each (λ x. (node cap n (inside_of cap n l) false role sum (x ∷ t) ≡ node cap n (inside_of cap n l) true role sum (x ∷ t)) × (eqb x 32 ≡ false)) (bytes "\"'[{")
      ((refl, refl), ((refl, refl), ((refl, refl), ((refl, refl), tt)))) b h in
      (value-node cap n l false role sum (b ∷ t) ∙ k.0 ∙ sym (value-node cap n l true role sum (b ∷ t)), k.1)

  out-whole : (l : ℕ) (role : Role) (sum : ℕ) (t : List ℕ) (y : Yaml) → T (json_like t) → ReadsTo cap n l role sum t [] y → flow cap n l role sum t ≡ good (y, sum + weight role y)
  unfolding json_like
  out-whole l role sum [] y j w = absurd j
  out-whole l role sum (b ∷ t) y j w =
      let k = out-same l role sum b t j in
      flow-is l role sum (sum + weight role y) (b ∷ t) w.left y (skip-not b t k.1)
      (k.0 ∙ ap (value cap n l true role sum) (sym (append-nil (b ∷ t))) ∙ w.is) (w.skip ∙ skip-none)

  out_reads : {t : List ℕ} {r : Rep} (d : Flow flow_out t r) → T (json_like t) → KeptFlow d → (y : Yaml) → as_yaml r ≡ some y → (l : ℕ) (role : Role) (sum : ℕ) → levels y ≤ l → sum + weight role y ≤ cap
      → flow cap n l role sum t ≡ good (y, sum + weight role y)
  out_reads {t = t} d j k y e l role sum v w = out-whole l role sum t y j (reads d k y e l role sum [] v w (shut j tt))

quoted-json : {s v : List ℕ} → Quoted s v → T (json_like s)
unfolding json_like among bytes
quoted-json (q_double d e) = rw e tt
quoted-json (q_single d e) = rw e tt

-- a flow node that is a whole line, or all of a part of one, is read as YAML reads it
pub flow-reads : (cap n l sum : ℕ) (role : Role) {t : List ℕ} {r : Rep} (d : Flow flow_out t r) → KeptFlow d → (y : Yaml) → as_yaml r ≡ some y → levels y ≤ l → sum + weight role y ≤ cap
    → flow cap n l role sum t ≡ good (y, sum + weight role y)
unfolding KeptFlow json_like among bytes
flow-reads cap n l sum role (f_plain p s) k y e v w = plain_out cap n l role sum y p k.0 (resolves s k.1 y e) w
flow-reads cap n l sum role (f_quoted q) k y e v w = out_reads cap n (f_quoted q) (quoted-json q) k y e l role sum v w
flow-reads cap n l sum role (f_seq m d q) k y e v w = out_reads cap n (f_seq m d q) (rw q tt) k y e l role sum v w
flow-reads cap n l sum role (f_map m d q) k y e v w = out_reads cap n (f_map m d q) (rw q tt) k y e l role sum v w
