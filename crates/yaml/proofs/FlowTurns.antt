-- Flow collections, turn by turn: how nodes begin, what follows them, and what the reader's loops do at a node, a pair, a comma and a close.
-- Assumes nothing.
use Rattle.std.proofs.Common.{◌≡◌, refl, sym, ap, ◌∙◌, subst, ℕ, zero, suc, ◌+◌, ◌≤◌, ◌<◌, arith, List, [], ◌∷◌, ◌++◌, append_assoc, Bool, true, false, ◌&&◌, ◌||◌, T, eqb, length, le-leb}
use Rattle.std.proofs.lemmas.Bool.{or_parts}
use Rattle.std.proofs.Math.Bool.{or-true}
use Rattle.std.proofs.Math.Option.{Option, none, some}
use Rattle.refusal.specs.Base.{good, ◌>>=◌, ◌>>◌, ensure, given, bytes}
use Rattle.utf8.specs.White.{trim}
use Rattle.utf8.proofs.TrimLaws.{trim-spaces}
use Rattle.item.specs.Tree.{Yaml, null, str, Items, ◌◂◌, no_item, Entries, add, no_entry, has_key, levels}
use Rattle.item.proofs.Size.{size}
use Rattle.scalar.specs.Scalars.{key_text, scalar_of}
use Rattle.scalar.specs.declared.Role.{Role}
use Rattle.scalar.specs.declared.Role.TheVariants.{AsValue, AsKey}
use Rattle.scalar.specs.Read.{Reader, charge, scalar, plain_text, ends_item, ends_colon, stops_plain, onto, plain, string, skip_spaces}
use Rattle.flow.specs.Flow.{stuck, node, value, items, item_turn, entries, entry_turn, entry_value, behind_colon, fresh}
use Rattle.scalar.proofs.Laws.{Flat, flat_scalar}
use Rattle.flow.proofs.Sums.{weight, cost-scalar}
use Rattle.yaml.specs.Characters.{among, spaces}
use Rattle.yaml.specs.Scalars.{Context, flow_in, Plain}
use Rattle.yaml.specs.Scalars as Sc
use Rattle.yaml.specs.Represent.{Rep}
use Rattle.yaml.specs.Flow.{Flow, f_plain, f_quoted, f_seq, f_map, Quoted, q_double, q_single, json_like}
use Rattle.yaml.proofs.Tests.{differs}
use Rattle.yaml.proofs.Trees.{key-size}
use Rattle.yaml.proofs.Grow.{add-some, snoc-some}
use Rattle.yaml.proofs.PlainReads.{Plainly, Begins, begins, first_plain, first-begins, not-json, plain-run}
use Rattle.yaml.proofs.QuotedReads.{double-reads, single_reads, NoQuote}

-- ---- how nodes begin

pub record Head (t : List ℕ) : Type 0 where
  pub byte : ℕ
  pub rest : List ℕ
  pub is : t ≡ byte ∷ rest
  pub ok : Begins byte rest

pub head_of : {t : List ℕ} {r : Rep} → Flow flow_in t r → Head t
unfolding among bytes
head_of (f_plain (Sc.plain {b = b} {t = t} h p) s) = record { byte = b; rest = t; is = refl; ok = first-begins b t h }
head_of (f_quoted (q_double {t = t} d e)) = record { byte = 34; rest = t ++ (34 ∷ []); is = e; ok = begins 34 _ tt }
head_of (f_quoted (q_single {t = t} d e)) = record { byte = 39; rest = t ++ (39 ∷ []); is = e; ok = begins 39 _ tt }
head_of (f_seq {t = t} n d e) = record { byte = 91; rest = spaces n ++ t; is = e; ok = begins 91 _ tt }
head_of (f_map {t = t} n d e) = record { byte = 123; rest = spaces n ++ t; is = e; ok = begins 123 _ tt }

pub head-long : {t : List ℕ} → Head t → 0 < length t
head-long hd = rw hd.is (omega arith)

-- ---- what follows them

pub skip-none : skip_spaces [] ≡ []
unfolding skip_spaces
skip-none = refl

pub skip-run : (k : ℕ) (s : List ℕ) → skip_spaces (spaces k ++ s) ≡ skip_spaces s
unfolding skip_spaces
skip-run zero s = refl
skip-run (suc k) s = skip-run k s

pub skip-not : (b : ℕ) (s : List ℕ) → eqb b 32 ≡ false → skip_spaces (b ∷ s) ≡ b ∷ s
unfolding skip_spaces
skip-not b s e = rw e

-- a node inside a flow collection: spaces, and a byte at which plain text stops
pub record Follows (r : List ℕ) : Type 0 where
  pub count : ℕ
  pub byte : ℕ
  pub rest : List ℕ
  pub is : r ≡ spaces count ++ (byte ∷ rest)
  pub stops : stops_plain byte rest ≡ true

stop-not : (b : ℕ) (bs : List ℕ) (x : ℕ) → stops_plain b bs ≡ true → stops_plain x bs ≡ false → eqb b x ≡ false
stop-not b bs x h k = differs (λ c. stops_plain c bs) b x (rw h tt) k

no-quote : (r : List ℕ) → Follows r → NoQuote r
unfolding stops_plain ends_item
no-quote r f = rw f.is (go f.count)
  where
    go : (k : ℕ) → NoQuote (spaces k ++ (f.byte ∷ f.rest))
    go zero = stop-not f.byte f.rest 39 f.stops refl
    go (suc k) = refl

pub follows-close : (k : ℕ) (r : List ℕ) → Follows (spaces k ++ (93 ∷ r))
unfolding stops_plain ends_item
follows-close k r = record { count = k; byte = 93; rest = r; is = refl; stops = refl }

pub follows-comma : (k : ℕ) (r : List ℕ) → Follows (spaces k ++ (44 ∷ r))
unfolding stops_plain ends_item
follows-comma k r = record { count = k; byte = 44; rest = r; is = refl; stops = refl }

follows-end : (k : ℕ) (r : List ℕ) → Follows (spaces k ++ (125 ∷ r))
unfolding stops_plain ends_item
follows-end k r = record { count = k; byte = 125; rest = r; is = refl; stops = refl }

pub follows-colon : (a m : ℕ) (r : List ℕ) → Follows (spaces a ++ (58 ∷ (spaces (suc m) ++ r)))
unfolding stops_plain ends_item ends_colon
follows-colon a m r = record { count = a; byte = 58; rest = spaces (suc m) ++ r; is = refl; stops = refl }

-- a pair: spaces, and a comma or the closing brace
pub record Ends (r : List ℕ) : Type 0 where
  pub follows : Follows r
  pub item : eqb follows.byte 44 || eqb follows.byte 125 ≡ true

ends_colon_lem : (r : List ℕ) → Ends r → ends_colon r ≡ true
ends_colon_lem r f = ap ends_colon f.follows.is ∙ go f.follows.count
  where
    go : (k : ℕ) → ends_colon (spaces k ++ (f.follows.byte ∷ f.follows.rest)) ≡ true
    go zero = unfold ends_colon ends_item in (rw (f.item, or-true (eqb f.follows.byte 32)))
    go (suc k) = unfold ends_colon in refl

pub follows-key : (a : ℕ) (r : List ℕ) → Ends r → Follows (spaces a ++ (58 ∷ r))
unfolding stops_plain ends_item
follows-key a r f = record { count = a; byte = 58; rest = r; is = refl; stops = ends_colon_lem r f }

pub ends_close : (a : ℕ) (r : List ℕ) → Ends (spaces a ++ (125 ∷ r))
ends_close a r = record { follows = follows-end a r; item = unfold follows-end in refl }

pub ends-comma : (a : ℕ) (r : List ℕ) → Ends (spaces a ++ (44 ∷ r))
ends-comma a r = record { follows = follows-comma a r; item = unfold follows-comma in refl }

-- a node in its context: what ends plain text, where a flow collection is open; anything but a quote, where the node is like JSON
pub data Behind (c : Context) (t r : List ℕ) : Type 0 where
  inside : c ≡ flow_in → Follows r → Behind c t r
  shut : T (json_like t) → NoQuote r → Behind c t r

behind-quote : {c : Context} {t r : List ℕ} → Behind c t r → NoQuote r
behind-quote {r = r} (inside e f) = no-quote r f
behind-quote (shut j h) = h

pub shut-colon : (c : Context) (t : List ℕ) → T (json_like t) → (a : ℕ) (r : List ℕ) → Behind c t (spaces a ++ (58 ∷ r))
shut-colon c t j zero r = shut j refl
shut-colon c t j (suc a) r = shut j refl

module _ (cap n : ℕ) where
  -- ---- scalars

  -- a node that was read
  pub record ReadsTo (l : ℕ) (role : Role) (sum : ℕ) (t r : List ℕ) (y : Yaml) : Type 0 where
    pub left : List ℕ
    pub is : value cap n l true role sum (t ++ r) ≡ good (y, sum + weight role y, left)
    pub skip : skip_spaces left ≡ skip_spaces r

  -- what is to be read of a node in its context
  abbrev pub NodeTo : Context → List ℕ → Yaml → Type 0
  NodeTo c t y = (l : ℕ) (role : Role) (sum : ℕ) (r : List ℕ) → levels y ≤ l → sum + weight role y ≤ cap → Behind c t r → ReadsTo l role sum t r y

  pub inside_of : ℕ → Option Reader
  inside_of zero = none
  inside_of (suc l) = some (λ r s b. value cap n l true r s b)

  pub value-node : (l : ℕ) (in_flow : Bool) (role : Role) (sum : ℕ) (bs : List ℕ) → value cap n l in_flow role sum bs ≡ node cap n (inside_of l) in_flow role sum bs
  unfolding value inside_of
  value-node zero in_flow role sum bs = refl
  value-node (suc l) in_flow role sum bs = refl

  scalar-good : (role : Role) (sum : ℕ) (y : Yaml) (rest : List ℕ) → Flat y → sum + weight role y ≤ cap
      → scalar cap n role sum y rest ≡ good (y, sum + weight role y, rest)
  unfolding scalar charge ◌>>=◌
  scalar-good role sum y rest s h = rw (cost-scalar role y s, le-leb (sum + weight role y) cap h)

  -- plain text, from where it stops
  pub plain-to : (l : ℕ) (in_flow : Bool) (role : Role) (sum b : ℕ) (t s u rest : List ℕ) (y : Yaml) → Plainly b → plain_text in_flow (b ∷ s) ≡ (u, rest) → trim u ≡ t
      → scalar_of t ≡ y → sum + weight role y ≤ cap → value cap n l in_flow role sum (b ∷ s) ≡ good (y, sum + weight role y, rest)
  plain-to l in_flow role sum b t s u rest y q p m e c =
      value-node l in_flow role sum (b ∷ s) ∙ unfold node plain in (rw (q.no_brace, q.no_bracket, q.no_double, q.no_single, q.no_tag, p, m, e)
      (scalar-good role sum y rest (subst Flat e (flat_scalar t)) c))

  plain-reads : (l : ℕ) (role : Role) (sum : ℕ) {t : List ℕ} (r : List ℕ) (y : Yaml) → Plain flow_in t → trim t ≡ t → scalar_of t ≡ y → sum + weight role y ≤ cap → Follows r
      → ReadsTo l role sum t r y
  plain-reads l role sum r y (Sc.plain {b = b} {t = t} h p) m s c f = record {
    left = f.byte ∷ f.rest;
    is = plain-to l true role sum b (b ∷ t) (t ++ r) (b ∷ t ++ spaces f.count) (f.byte ∷ f.rest) y (first_plain flow_in b t h) (runs ((first-begins b t h).goes r)) (trim-spaces f.count (b ∷ t) ∙ m) s c;
    skip = sym (ap skip_spaces f.is ∙ skip-run f.count (f.byte ∷ f.rest));
  }
    where
      runs : stops_plain b (t ++ r) ≡ false → plain_text true (b ∷ t ++ r) ≡ (b ∷ t ++ spaces f.count, f.byte ∷ f.rest)
      runs q = unfold plain_text in
          (rw q (ap (onto b) (ap (λ (x : List ℕ). plain_text true (t ++ x)) f.is ∙ plain-run p f.count f.byte f.rest f.stops)))

  pub plain-node : (c : Context) {t : List ℕ} → Plain c t → trim t ≡ t → (y : Yaml) → scalar_of t ≡ y → NodeTo c t y
  plain-node c {t = t} p m y s l role sum r v w (inside e f) = plain-reads l role sum r y (subst (λ (x : Context). Plain x t) e p) m s w f
  plain-node c p m y s l role sum r v w (shut j h) = absurd (not-json c p j)

  -- quoted text
  quoted-good : (role : Role) (sum : ℕ) (v rest : List ℕ) → sum + weight role (str v) ≤ cap → string cap n role sum (good (v, rest)) ≡ good (str v, sum + weight role (str v), rest)
  unfolding string ◌>>=◌
  quoted-good role sum v rest h = scalar-good role sum (str v) rest tt h

  pub quoted-node : (c : Context) {s v : List ℕ} → Quoted s v → NodeTo c s (str v)
  quoted-node c (q_double {t = t} {v = v} d e) l role sum r g h b = rw e (record {
    left = r;
    is = value-node l true role sum _ ∙ unfold node in (rw (append_assoc t (34 ∷ []) r, double-reads cap n d r) (quoted-good role sum v r h));
    skip = refl;
  })
  quoted-node c (q_single {t = t} {v = v} d e) l role sum r g h b = rw e (record {
    left = r;
    is = value-node l true role sum _ ∙ unfold node in (rw (append_assoc t (39 ∷ []) r, single_reads cap n d r (behind-quote b)) (quoted-good role sum v r h));
    skip = refl;
  })

  -- ---- sequences

  abbrev pub inner : ℕ → Reader
  inner l = λ r s b. value cap n l true r s b

  stuck-not : (b : ℕ) (bs : List ℕ) → stops_plain b bs ≡ false → stuck b bs ≡ false
  unfolding stuck stops_plain ends_item
  stuck-not b bs h =
      let p = or_parts (eqb b 44 || eqb b 125 || eqb b 93) (eqb b 58 && ends_colon bs) h in
      let q = or_parts (eqb b 44 || eqb b 125) (eqb b 93) p.0 in
      rw ((or_parts (eqb b 44) (eqb b 125) q.0).1, p.1)

  -- a turn at a node
  turn_at : (l u : ℕ) (got : Items) (sum b : ℕ) (t r left : List ℕ) (y : Yaml) → Begins b t → value cap n l true AsValue sum (b ∷ t ++ r) ≡ good (y, sum + size y, left)
      → items cap n (inner l) (suc u) got sum (b ∷ t ++ r) ≡ items cap n (inner l) u (got ◂ y) (sum + size y) left
  unfolding items item_turn ◌>>=◌
  turn_at l u got sum b t r left y ok w =
      rw (skip-not b (t ++ r) ok.no_space, ok.no_close, ok.no_comma, stuck-not b (t ++ r) (ok.goes r), w)

  item_turn_lem : (l u : ℕ) (got : Items) (sum : ℕ) (t r : List ℕ) (y : Yaml) → Head t → (w : ReadsTo l AsValue sum t r y)
      → items cap n (inner l) (suc u) got sum (t ++ r) ≡ items cap n (inner l) u (got ◂ y) (sum + size y) w.left
  item_turn_lem l u got sum t r y hd w =
      subst (λ (x : List ℕ). value cap n l true AsValue sum (x ++ r) ≡ good (y, sum + size y, w.left) → items cap n (inner l) (suc u) got sum (x ++ r) ≡ items cap n (inner l) u (got ◂ y) (sum + size y) w.left)
      (sym hd.is) (λ v. turn_at l u got sum hd.byte hd.rest r w.left y hd.ok v) w.is

  -- spaces before an item
  pub items-skip : (l u : ℕ) (got : Items) (sum : ℕ) (a b : List ℕ) → skip_spaces a ≡ skip_spaces b → items cap n (inner l) u got sum a ≡ items cap n (inner l) u got sum b
  unfolding items
  items-skip l zero got sum a b e = refl
  items-skip l (suc u) got sum a b e = ap (λ (x : List ℕ). item_turn cap n (inner l) (λ g s r. items cap n (inner l) u g s r) got sum x) e

  pub items-close : (l u : ℕ) (got : Items) (sum : ℕ) (r : List ℕ) → items cap n (inner l) (suc u) got sum (93 ∷ r) ≡ good (got, sum, r)
  unfolding items item_turn skip_spaces
  items-close l u got sum r = refl

  items-comma : (l u : ℕ) (got : Items) (sum : ℕ) (r : List ℕ) → no_item got ≡ false → items cap n (inner l) (suc u) got sum (44 ∷ r) ≡ items cap n (inner l) u got sum r
  unfolding items item_turn skip_spaces
  items-comma l u got sum r e = rw e

  -- the last item, and one before a comma
  pub last-item : (l u k : ℕ) (got : Items) (sum : ℕ) (t r : List ℕ) (y : Yaml) → Head t → ReadsTo l AsValue sum t (spaces k ++ (93 ∷ r)) y
      → items cap n (inner l) (suc (suc u)) got sum (t ++ (spaces k ++ (93 ∷ r))) ≡ good (got ◂ y, sum + size y, r)
  last-item l u k got sum t r y hd w =
      item_turn_lem l (suc u) got sum t _ y hd w
      ∙ items-skip l (suc u) (got ◂ y) (sum + size y) w.left (93 ∷ r) (w.skip ∙ skip-run k (93 ∷ r))
      ∙ items-close l u (got ◂ y) (sum + size y) r

  pub next-item : (l u k m : ℕ) (got : Items) (sum : ℕ) (t r : List ℕ) (y : Yaml) → Head t → ReadsTo l AsValue sum t (spaces k ++ (44 ∷ (spaces m ++ r))) y
      → items cap n (inner l) (suc (suc u)) got sum (t ++ (spaces k ++ (44 ∷ (spaces m ++ r)))) ≡ items cap n (inner l) u (got ◂ y) (sum + size y) r
  next-item l u k m got sum t r y hd w =
      item_turn_lem l (suc u) got sum t _ y hd w
      ∙ items-skip l (suc u) (got ◂ y) (sum + size y) w.left (44 ∷ (spaces m ++ r)) (w.skip ∙ skip-run k (44 ∷ (spaces m ++ r)))
      ∙ items-comma l u (got ◂ y) (sum + size y) (spaces m ++ r) (snoc-some got y)
      ∙ items-skip l u (got ◂ y) (sum + size y) (spaces m ++ r) r (skip-run m r)

  -- ---- mappings

  -- a pair that was read: what is left
  pub record PairTo (l sum : ℕ) (t r k : List ℕ) (v : Yaml) : Type 0 where
    pub left : List ℕ
    pub is : (u : ℕ) (got : Entries) → has_key k got ≡ false
        → entries cap n (inner l) (suc u) got sum (t ++ r) ≡ entries cap n (inner l) u (add got k v) (sum + (6 + length k + size v)) left
    pub skip : skip_spaces left ≡ skip_spaces r

  pair-at : (l u : ℕ) (got : Entries) (sum b : ℕ) (t : List ℕ) (y v : Yaml) (k x₁ x₂ x₃ : List ℕ) (s₁ s₂ : ℕ) {t' : List ℕ} → Begins b t'
      → value cap n l true AsKey sum (b ∷ t) ≡ good (y, s₁, x₁) → key_text y ≡ some k → behind_colon cap n (skip_spaces x₁) ≡ good x₂
      → entry_value cap n (inner l) s₁ (skip_spaces x₂) ≡ good (v, s₂, x₃) → has_key k got ≡ false
      → entries cap n (inner l) (suc u) got sum (b ∷ t) ≡ entries cap n (inner l) u (add got k v) s₂ x₃
  unfolding entries entry_turn ◌>>=◌ ◌>>◌ given fresh ensure
  pair-at l u got sum b t y v k x₁ x₂ x₃ s₁ s₂ ok e₁ e₂ e₃ e₄ e₅ =
      rw (skip-not b t ok.no_space, ok.no_end, ok.no_comma, e₁, e₂, e₃, e₄, e₅)

  colon-is : (k : ℕ) (x s : List ℕ) → skip_spaces x ≡ skip_spaces (spaces k ++ (58 ∷ s)) → behind_colon cap n (skip_spaces x) ≡ good s
  unfolding behind_colon
  colon-is k x s e = rw (e ∙ skip-run k (58 ∷ s) ∙ skip-not 58 s refl)

  value-is : (l sum m : ℕ) (u r : List ℕ) (v : Yaml) → Head u → (w : ReadsTo l AsValue sum u r v)
      → entry_value cap n (inner l) sum (skip_spaces (spaces m ++ (u ++ r))) ≡ good (v, sum + size v, w.left)
  value-is l sum m u r v hd w =
      ap (entry_value cap n (inner l) sum) (skip-run m (u ++ r))
      ∙ subst (λ (x : List ℕ). value cap n l true AsValue sum (x ++ r) ≡ good (v, sum + size v, w.left) → entry_value cap n (inner l) sum (skip_spaces (x ++ r)) ≡ good (v, sum + size v, w.left))
      (sym hd.is) (λ q. at hd.byte (hd.rest ++ r) hd.ok q) w.is
    where
      at : (b : ℕ) (bs : List ℕ) {t : List ℕ} → Begins b t → value cap n l true AsValue sum (b ∷ bs) ≡ good (v, sum + size v, w.left)
          → entry_value cap n (inner l) sum (skip_spaces (b ∷ bs)) ≡ good (v, sum + size v, w.left)
      at b bs ok q = ap (entry_value cap n (inner l) sum) (skip-not b bs ok.no_space) ∙ unfold entry_value in (rw (ok.no_comma, ok.no_end) q)

  null_is : (l sum : ℕ) (r : List ℕ) → (f : Ends r) → sum + 6 ≤ cap → entry_value cap n (inner l) sum (skip_spaces r) ≡ good (null, sum + 6, f.follows.byte ∷ f.follows.rest)
  unfolding entry_value stops_plain ends_item
  null_is l sum r f h =
      rw (
        f.follows.is,
        skip-run f.follows.count (f.follows.byte ∷ f.follows.rest),
        skip-not f.follows.byte f.follows.rest (stop-not f.follows.byte f.follows.rest 32 f.follows.stops refl),
        f.item,
      )
      (scalar-good AsValue sum null _ tt h)

  pair-head : (l u : ℕ) (got : Entries) (sum : ℕ) (t r : List ℕ) (y v : Yaml) (k x₁ x₂ x₃ : List ℕ) (s₁ s₂ : ℕ) → Head t
      → value cap n l true AsKey sum (t ++ r) ≡ good (y, s₁, x₁) → key_text y ≡ some k → behind_colon cap n (skip_spaces x₁) ≡ good x₂
      → entry_value cap n (inner l) s₁ (skip_spaces x₂) ≡ good (v, s₂, x₃) → has_key k got ≡ false
      → entries cap n (inner l) (suc u) got sum (t ++ r) ≡ entries cap n (inner l) u (add got k v) s₂ x₃
  pair-head l u got sum t r y v k x₁ x₂ x₃ s₁ s₂ hd e₁ e₂ e₃ e₄ e₅ =
      subst (λ (z : List ℕ). value cap n l true AsKey sum (z ++ r) ≡ good (y, s₁, x₁) → entries cap n (inner l) (suc u) got sum (z ++ r) ≡ entries cap n (inner l) u (add got k v) s₂ x₃)
      (sym hd.is) (λ q. pair-at l u got sum hd.byte (hd.rest ++ r) y v k x₁ x₂ x₃ s₁ s₂ hd.ok q e₂ e₃ e₄ e₅) e₁

  pub pair-value : (l sum : ℕ) (t u r k : List ℕ) (y v : Yaml) (a m : ℕ) → Head t → key_text y ≡ some k → ReadsTo l AsKey sum t (spaces a ++ (58 ∷ (spaces m ++ (u ++ r)))) y
      → Head u → ReadsTo l AsValue (sum + weight AsKey y) u r v → PairTo l sum (t ++ (spaces a ++ (58 ∷ (spaces m ++ u)))) r k v
  pair-value l sum t u r k y v a m hd e w hu x = record {
    left = x.left;
    is = λ c got f.
        ap (entries cap n (inner l) (suc c) got sum) (simp append_assoc)
        ∙ pair-head l c got sum t _ y v k w.left (spaces m ++ (u ++ r)) x.left (sum + weight AsKey y) (sum + weight AsKey y + size v) hd w.is e
        (colon-is a w.left (spaces m ++ (u ++ r)) w.skip) (value-is l (sum + weight AsKey y) m u r v hu x) f
        ∙ ap (λ (s : ℕ). entries cap n (inner l) c (add got k v) s x.left) (omega (arith, key-size y k e));
    skip = x.skip;
  }

  pub pair-null : (l sum : ℕ) (t r k : List ℕ) (y : Yaml) (a : ℕ) → Head t → key_text y ≡ some k → ReadsTo l AsKey sum t (spaces a ++ (58 ∷ r)) y
      → (f : Ends r) → sum + weight AsKey y + 6 ≤ cap → PairTo l sum (t ++ (spaces a ++ (58 ∷ []))) r k null
  pair-null l sum t r k y a hd e w f h = record {
    left = f.follows.byte ∷ f.follows.rest;
    is = λ c got q.
        ap (entries cap n (inner l) (suc c) got sum) (simp append_assoc)
        ∙ pair-head l c got sum t _ y null k w.left r _ (sum + weight AsKey y) (sum + weight AsKey y + 6) hd w.is e
        (colon-is a w.left r w.skip) (null_is l (sum + weight AsKey y) r f h) q
        ∙ ap (λ (s : ℕ). entries cap n (inner l) c (add got k null) s (f.follows.byte ∷ f.follows.rest)) (omega (arith, key-size y k e));
    skip = sym (ap skip_spaces f.follows.is ∙ skip-run f.follows.count (f.follows.byte ∷ f.follows.rest));
  }

  pub entries-skip : (l u : ℕ) (got : Entries) (sum : ℕ) (a b : List ℕ) → skip_spaces a ≡ skip_spaces b → entries cap n (inner l) u got sum a ≡ entries cap n (inner l) u got sum b
  unfolding entries
  entries-skip l zero got sum a b e = refl
  entries-skip l (suc u) got sum a b e = ap (λ (x : List ℕ). entry_turn cap n (inner l) (λ g s r. entries cap n (inner l) u g s r) got sum x) e

  pub entries-close : (l u : ℕ) (got : Entries) (sum : ℕ) (r : List ℕ) → entries cap n (inner l) (suc u) got sum (125 ∷ r) ≡ good (got, sum, r)
  unfolding entries entry_turn skip_spaces
  entries-close l u got sum r = refl

  entries-comma : (l u : ℕ) (got : Entries) (sum : ℕ) (r : List ℕ) → no_entry got ≡ false → entries cap n (inner l) (suc u) got sum (44 ∷ r) ≡ entries cap n (inner l) u got sum r
  unfolding entries entry_turn skip_spaces
  entries-comma l u got sum r e = rw e

  pub last-pair : (l u a : ℕ) (got : Entries) (sum : ℕ) (t r k : List ℕ) (v : Yaml) → has_key k got ≡ false → PairTo l sum t (spaces a ++ (125 ∷ r)) k v
      → entries cap n (inner l) (suc (suc u)) got sum (t ++ (spaces a ++ (125 ∷ r))) ≡ good (add got k v, sum + (6 + length k + size v), r)
  last-pair l u a got sum t r k v f w =
      w.is (suc u) got f
      ∙ entries-skip l (suc u) (add got k v) _ w.left (125 ∷ r) (w.skip ∙ skip-run a (125 ∷ r))
      ∙ entries-close l u (add got k v) _ r

  pub next-pair : (l u a m : ℕ) (got : Entries) (sum : ℕ) (t r k : List ℕ) (v : Yaml) → has_key k got ≡ false → PairTo l sum t (spaces a ++ (44 ∷ (spaces m ++ r))) k v
      → entries cap n (inner l) (suc (suc u)) got sum (t ++ (spaces a ++ (44 ∷ (spaces m ++ r)))) ≡ entries cap n (inner l) u (add got k v) (sum + (6 + length k + size v)) r
  next-pair l u a m got sum t r k v f w =
      w.is (suc u) got f
      ∙ entries-skip l (suc u) (add got k v) _ w.left (44 ∷ (spaces m ++ r)) (w.skip ∙ skip-run a (44 ∷ (spaces m ++ r)))
      ∙ entries-comma l u (add got k v) _ (spaces m ++ r) (add-some got k v)
      ∙ entries-skip l u (add got k v) _ (spaces m ++ r) r (skip-run m r)
