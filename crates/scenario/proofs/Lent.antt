-- What is lent decides only 50, 51 and 52 (demand 2): a text is accepted exactly when it is enough, and what is read is the text's alone. Assumes nothing.
use Rattle.std.proofs.Common.{◌≡◌, refl, sym, ap, ◌∙◌, ℕ, ◌≤◌, ◌<◌, min, ◌^◌, arith, List, Bool, true, false, ◌⊎◌, inl, inr, leb, length, le-leb}
use Rattle.std.proofs.lemmas.Bool.{lt-leb}
use Rattle.refusal.specs.Base.{Answer, good, refused, ◌>>=◌, ◌>>◌, ensure}
use Rattle.refusal.proofs.Tools.{good-inj, refused≢good, bound}
use Rattle.item.specs.Tree.{Yaml}
use Rattle.item.specs.Encode.{encode}
use Rattle.lines.specs.Lines.{Line, significant_lines}
use Rattle.tree.specs.Tree.{admitted, tree_of}
use Rattle.tree.proofs.Sound.{tree-size}
use Rattle.meaning.specs.Record.{record_of}
use Rattle.meaning.specs.Meanings.{meaning_of}
use Rattle.step_lines.specs.StepLines.{step_lines}
use Rattle.scenario.specs.Scenario.{Reading, lines_for, reading_of, scenario}
use Rattle.scenario.specs.Told.{text_reading, text_meaning, Enough}
use Rattle.scenario.proofs.AnyWork.{Less, alike, short, trees}
use Rattle.scenario.proofs.Demand.{reading-parts, accepted}

-- ---- readings with less work and with more

first : {A B : Type 0} {cap : ℕ} {sum : B → ℕ} (a : Answer A) {f g : A → Answer B} → ((x : A) → Less cap sum (f x) (g x)) → Less cap sum (a >>= f) (a >>= g)
unfolding ◌>>=◌
first (good x) k = k x
first (refused n l s) k = alike refl

number_same : {n l s n' l' s' : ℕ} → ◌≡◌ {A = Answer Reading} (refused n l s) (refused n' l' s') → n ≡ n'
number_same e = cc

-- the bytes of a reading's tree
abbrev pub tree_size : Reading → ℕ
tree_size r = length (encode r.tree)

behind : List Line → Yaml → Answer Reading
behind ls y = meaning_of (step_lines ls) y >>= λ m. good (record { tree = y; meaning = m; lines = lines_for m.steps (step_lines ls) })

behind-tree : (ls : List Line) (y : Yaml) (r : Reading) → behind ls y ≡ good r → y ≡ r.tree
unfolding behind
behind-tree ls y r e = bound (meaning_of (step_lines ls) y) _ r e λ m p q. ap (λ (z : Reading). z.tree) (good-inj _ _ q)

module _ (work work' : ℕ) (h : min work (2 ^ 20) ≤ min work' (2 ^ 20)) (text : List ℕ) where
  pub readings : Less (min work (2 ^ 20)) tree_size (reading_of work text) (reading_of work' text)
  unfolding reading_of ◌>>◌ ◌>>=◌ behind
  readings = first (admitted text) λ _. first (significant_lines text) λ ls. go ls (trees (min work (2 ^ 20)) (min work' (2 ^ 20)) h ls)
    where
      go : (ls : List Line) → Less (min work (2 ^ 20)) (λ (y : Yaml). length (encode y)) (tree_of (min work (2 ^ 20)) ls) (tree_of (min work' (2 ^ 20)) ls)
          → Less (min work (2 ^ 20)) tree_size (tree_of (min work (2 ^ 20)) ls >>= behind ls) (tree_of (min work' (2 ^ 20)) ls >>= behind ls)
      go ls (alike e) = alike (ap (λ (a : Answer Yaml). a >>= behind ls) e)
      go ls (short e s) = short (ap (λ (a : Answer Yaml). a >>= behind ls) e)
          (λ r p. bound (tree_of (min work' (2 ^ 20)) ls) (behind ls) r p
          λ y q t. omega (arith, s y q, ap (λ (z : Yaml). length (encode z)) (behind-tree ls y r t)))

module _ (work : ℕ) (text : List ℕ) where
  -- and against the text's own reading
  whole : Less (min work (2 ^ 20)) tree_size (reading_of work text) (text_reading text)
  unfolding text_reading
  whole = readings work (2 ^ 20) (omega arith) text

  -- what is read is the text's own
  pub own-reading : (r : Reading) → reading_of work text ≡ good r → text_reading text ≡ good r
  own-reading r e = go whole
    where
      go : Less (min work (2 ^ 20)) tree_size (reading_of work text) (text_reading text) → text_reading text ≡ good r
      go (alike p) = sym p ∙ e
      go (short p s) = refused≢good r 50 0 0 (sym p ∙ e)

  -- a text that is read can be read with work for its tree
  pub read-with : (r : Reading) → text_reading text ≡ good r → tree_size r ≤ min work (2 ^ 20) → reading_of work text ≡ good r
  read-with r e fits = go whole
    where
      go : Less (min work (2 ^ 20)) tree_size (reading_of work text) (text_reading text) → reading_of work text ≡ good r
      go (alike p) = p ∙ e
      go (short p s) = absurd (omega (arith, s r e))

  -- and with less it is 50
  pub short-of-work : (r : Reading) → text_reading text ≡ good r → min work (2 ^ 20) < tree_size r → reading_of work text ≡ refused 50 0 0
  short-of-work r e small = go whole
    where
      go : Less (min work (2 ^ 20)) tree_size (reading_of work text) (text_reading text) → reading_of work text ≡ refused 50 0 0
      go (alike p) = absurd (omega (arith, tree-size work text r.tree (reading-parts work text r (p ∙ e)).tree_is))
      go (short p s) = p

  -- a text that is refused by itself is refused so, or with 50
  pub own-refusal : (k l s : ℕ) → text_reading text ≡ refused k l s → (reading_of work text ≡ refused k l s) ⊎ (reading_of work text ≡ refused 50 0 0)
  own-refusal k l s e = go whole
    where
      go : Less (min work (2 ^ 20)) tree_size (reading_of work text) (text_reading text) → (reading_of work text ≡ refused k l s) ⊎ (reading_of work text ≡ refused 50 0 0)
      go (alike p) = inl (p ∙ e)
      go (short p s) = inr p

-- ---- accepted

module _ (work room places : ℕ) (text : List ℕ) (r : Reading) where
  -- a text's reading, and its meaning, are the text's alone
  pub accepted-reading : scenario work room places text ≡ good r → text_reading text ≡ good r
  accepted-reading e = own-reading work text r (accepted work room places text r e).reading

  pub accepted-meaning : scenario work room places text ≡ good r → text_meaning text ≡ good r.meaning
  unfolding text_meaning ◌>>=◌
  accepted-meaning e = rw (accepted-reading e)

  -- a text is accepted exactly when what is lent is enough for its reading
  pub accepted-enough : scenario work room places text ≡ good r → Enough work room places r
  accepted-enough e =
      let a = accepted work room places text r e in
      record { tree = tree-size work text r.tree (reading-parts work text r a.reading).tree_is; steps = a.few; bytes = a.small }

  pub enough-accepted : text_reading text ≡ good r → Enough work room places r → scenario work room places text ≡ good r
  unfolding scenario ensure ◌>>◌ ◌>>=◌
  enough-accepted e f = rw (
    read-with work text r e f.tree,
    le-leb (length r.meaning.steps) (min places (2 ^ 18)) f.steps,
    le-leb (length (record_of r.meaning)) (min room (2 ^ 20)) f.bytes,
  )

  -- where it is not, the first that lacks says why: 50, 51, 52
  module _ (e : text_reading text ≡ good r) where
    pub work-lacks : min work (2 ^ 20) < length (encode r.tree) → scenario work room places text ≡ refused 50 0 0
    unfolding scenario ◌>>=◌
    work-lacks h = rw (short-of-work work text r e h)

    pub places-lack : length (encode r.tree) ≤ min work (2 ^ 20) → min places (2 ^ 18) < length r.meaning.steps → scenario work room places text ≡ refused 51 0 0
    unfolding scenario ensure ◌>>◌ ◌>>=◌
    places-lack t h = rw (read-with work text r e t, lt-leb (length r.meaning.steps) (min places (2 ^ 18)) h)

    pub room-lacks : length (encode r.tree) ≤ min work (2 ^ 20) → length r.meaning.steps ≤ min places (2 ^ 18)
        → min room (2 ^ 20) < length (record_of r.meaning) → scenario work room places text ≡ refused 52 0 0
    unfolding scenario ensure ◌>>◌ ◌>>=◌
    room-lacks t s h = rw (
      read-with work text r e t,
      le-leb (length r.meaning.steps) (min places (2 ^ 18)) s,
      lt-leb (length (record_of r.meaning)) (min room (2 ^ 20)) h,
    )

-- ---- more is lent

module _ (work room places work' room' places' : ℕ) (text : List ℕ) where
  -- an acceptance stays, with the same reading
  pub more-accepted : (r : Reading) → work ≤ work' → room ≤ room' → places ≤ places' → scenario work room places text ≡ good r → scenario work' room' places' text ≡ good r
  more-accepted r w b p e =
      let f = accepted-enough work room places text r e in
      enough-accepted work' room' places' text r (accepted-reading work room places text r e) (record {
        tree = omega (arith, f.tree);
        steps = omega (arith, f.steps);
        bytes = omega (arith, f.bytes);
      })

  -- two lendings that are both enough read the same
  pub same-reading : (r r' : Reading) → scenario work room places text ≡ good r → scenario work' room' places' text ≡ good r' → r ≡ r'
  same-reading r r' e e' = good-inj r r' (sym (accepted-reading work room places text r e) ∙ accepted-reading work' room' places' text r' e')

-- ---- refused, with another number than 50, 51, 52

-- the numbers that say that too little is lent
abbrev pub Lacks : ℕ → Type 0
Lacks k = (k ≡ 50) ⊎ (k ≡ 51) ⊎ (k ≡ 52)

module _ (work room places : ℕ) (text : List ℕ) (k l s : ℕ) (e : scenario work room places text ≡ refused k l s) (other : Lacks k → ⊥) where
  -- it is the reading's, whatever room and places are lent
  unread : reading_of work text ≡ refused k l s
  unfolding scenario ensure ◌>>◌ ◌>>=◌
  unread = go (reading_of work text) refl e
    where
      last : (t : Bool) (r : Reading) → (ensure t 52 0 0 >> good r) ≡ refused k l s → Lacks k
      last true r q = absurd (refused≢good r k l s (sym q))
      last false r q = inr (inr (sym (number_same q)))

      both : (t : Bool) (r : Reading) → (ensure t 51 0 0 >> (ensure (leb (length (record_of r.meaning)) (min room (2 ^ 20))) 52 0 0 >> good r)) ≡ refused k l s → Lacks k
      both true r q = last (leb (length (record_of r.meaning)) (min room (2 ^ 20))) r q
      both false r q = inr (inl (sym (number_same q)))

      go : (a : Answer Reading) → reading_of work text ≡ a
          → (a >>= λ r. ensure (leb (length r.meaning.steps) (min places (2 ^ 18))) 51 0 0 >> (ensure (leb (length (record_of r.meaning)) (min room (2 ^ 20))) 52 0 0 >> good r)) ≡ refused k l s
          → reading_of work text ≡ refused k l s
      go (refused n i j) p q = p ∙ q
      go (good r) p q = absurd (other (both (leb (length r.meaning.steps) (min places (2 ^ 18))) r q))

  -- it is the text's own refusal
  pub refused-itself : text_reading text ≡ refused k l s
  refused-itself = go (whole work text)
    where
      go : Less (min work (2 ^ 20)) tree_size (reading_of work text) (text_reading text) → text_reading text ≡ refused k l s
      go (alike p) = sym p ∙ unread
      go (short p _) = absurd (other (inl (number_same (sym unread ∙ p))))

  -- no less work is refused so too, whatever room and places are lent
  pub more-refused : (work' room' places' : ℕ) → work ≤ work' → scenario work' room' places' text ≡ refused k l s
  unfolding scenario ◌>>=◌
  more-refused work' room' places' h = rw (go (readings work work' (omega arith) text))
    where
      go : Less (min work (2 ^ 20)) tree_size (reading_of work text) (reading_of work' text) → reading_of work' text ≡ refused k l s
      go (alike p) = sym p ∙ unread
      go (short p _) = absurd (other (inl (number_same (sym unread ∙ p))))

  -- and any work is refused so, or with 50
  pub less-refused : (work' room' places' : ℕ) → (scenario work' room' places' text ≡ refused k l s) ⊎ (scenario work' room' places' text ≡ refused 50 0 0)
  unfolding scenario ◌>>=◌
  less-refused work' room' places' = go (own-refusal work' text k l s refused-itself)
    where
      go : (reading_of work' text ≡ refused k l s) ⊎ (reading_of work' text ≡ refused 50 0 0)
          → (scenario work' room' places' text ≡ refused k l s) ⊎ (scenario work' room' places' text ≡ refused 50 0 0)
      go (inl p) = inl (rw p)
      go (inr p) = inr (rw p)
