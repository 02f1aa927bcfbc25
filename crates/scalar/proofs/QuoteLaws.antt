-- Laws of quoted strings: what stands at a place, and what is passed up to it. Assumes nothing.
use Rattle.std.specs.Prelude.{Result, Ok, Err, Option as Chance, Some, None, ok_or}
use Rattle.std.proofs.Common.{◌≡◌, refl, sym, ap, ◌∙◌, ℕ, suc, ◌+◌, ◌≤◌, ◌<◌, add-one, arith, List, [], ◌∷◌, ◌++◌, true, false, length, take, drop, get_or, drop_of_length-le, length-append, drop-cons, set, take-suc, eq-eqb, ne_eqb}
use Rattle.std.proofs.lemmas.List.{take_more_set}
use Rattle.std.proofs.Math.Option.{Option, none, some}
use Rattle.refusal.specs.Base.{good, refused, ◌>>=◌, ch}
use Rattle.refusal.specs.Told.{refusal}
use Rattle.refusal.proofs.Tools.{good-inj, refused≢good}
use Rattle.refusal.specs.declared.Refusal.{Refusal}
use Rattle.item.specs.Tree.{str}
use Rattle.item.specs.Encode.{item}
use Rattle.scalar.specs.declared.Role.{Role}
use Rattle.writer.specs.declared.Writer.{Writer}
use Rattle.writer.specs.Writing.{cap_of, Appends, Lacks}
use Rattle.scalar.specs.declared.quoted_text.Piece.{Piece}
use Rattle.scalar.specs.declared.quoted_text.Piece.TheVariants.{Byte, Shut}
use Rattle.scalar.specs.Read.{escape, stop, scalar, onto_good, double_quoted, single_quoted, string}
use Rattle.scalar.specs.Code.{escape_of, Content, ReadsPiece, Spanned}
use Rattle.scalar.specs.Contract.{is_key, Refuses, WroteValue}
use Rattle.scalar.proofs.Laws.{written_text, wrote_scalar, refused_scalar}

-- what the code's answer tells of an escape
pub escaped_err : (o : Option ℕ) (r : Chance ℕ) (d e : Refusal) → r ≡ escape_of o → Err e ≡ ok_or r d → (e ≡ d) × (o ≡ none)
escaped_err none r d e p q = let k : Err e ≡ ok_or None d = rw p at q in (cc, refl)
escaped_err (some b) r d e p q = let k : Err e ≡ ok_or (Some b) d = rw p at q in cc

pub escaped_ok : (o : Option ℕ) (r : Chance ℕ) (d : Refusal) (b : ℕ) → r ≡ escape_of o → Ok b ≡ ok_or r d → o ≡ some b
escaped_ok none r d b p q = let k : Ok b ≡ ok_or None d = rw p at q in cc
escaped_ok (some a) r d b p q = let k : Ok b ≡ ok_or (Some a) d = rw p at q in cc

-- what stands behind a byte that says nothing itself
pub stands_behind : (f g : List ℕ → Content) (cap line : ℕ) (s : List ℕ) (i : ℕ) → g (drop i s) ≡ f (drop (i + 1) s) → (r : Result Piece Refusal)
    → ReadsPiece f g cap line s (i + 1) r → ReadsPiece g g cap line s i r
stands_behind f g cap line s i e (Ok (Byte b)) (p, h, k) = (e ∙ p, omega arith, k)
stands_behind f g cap line s i e (Ok (Shut n)) (p, h) = (e ∙ p, h)
stands_behind f g cap line s i e (Err x) p = e ∙ p

-- a byte is stored behind those before it
pub one_more : (out t : List ℕ) (k x : ℕ) → k < length out → k < length t → take k out ≡ take k t → x ≡ get_or t k 0 → take (k + 1) (set out k x) ≡ take (k + 1) t
one_more out t k x m h p e = take_more_set out k x m ∙ rw (p, add-one, take-suc t k 0 h, e)

module _ (cap line : ℕ) where
  -- ---- what stands at a place

  module _ (s : List ℕ) (i : ℕ) where
    pub double-open : length s ≤ i → double_quoted cap line false (drop i s) ≡ refused 13 line 0
    unfolding double_quoted stop
    double-open h = rw (drop_of_length-le s {i = i} h)

    pub escape-cut : length s ≤ i → double_quoted cap line true (drop i s) ≡ refused 11 line 0
    unfolding double_quoted stop
    escape-cut h = rw (drop_of_length-le s {i = i} h)

    pub single-open : length s ≤ i → single_quoted cap line false (drop i s) ≡ refused 13 line 0
    unfolding single_quoted stop
    single-open h = rw (drop_of_length-le s {i = i} h)

    module _ (h : i < length s) where
      pub double-shut : get_or s i 0 ≡ ch "\"" → double_quoted cap line false (drop i s) ≡ good ([], drop (i + 1) s)
      unfolding double_quoted
      double-shut e = rw (add-one, drop-cons s i 0 h, eq-eqb (get_or s i 0) (ch "\"") e)

      pub double-hid : get_or s i 0 ≡ ch "\\" → double_quoted cap line false (drop i s) ≡ double_quoted cap line true (drop (i + 1) s)
      unfolding double_quoted
      double-hid e = rw (add-one, drop-cons s i 0 h, e)

      pub double-byte : (get_or s i 0 ≡ ch "\"" → ⊥) → (get_or s i 0 ≡ ch "\\" → ⊥) → double_quoted cap line false (drop i s) ≡ onto_good cap line (get_or s i 0) (double_quoted cap line false (drop (i + 1) s))
      unfolding double_quoted
      double-byte n m = rw (add-one, drop-cons s i 0 h, ne_eqb (get_or s i 0) (ch "\"") n, ne_eqb (get_or s i 0) (ch "\\") m)

      pub escape-unknown : escape (get_or s i 0) ≡ none → double_quoted cap line true (drop i s) ≡ refused 12 line 0
      unfolding double_quoted stop
      escape-unknown e = rw (drop-cons s i 0 h, e)

      pub escape-byte : (b : ℕ) → escape (get_or s i 0) ≡ some b → double_quoted cap line true (drop i s) ≡ onto_good cap line b (double_quoted cap line false (drop (i + 1) s))
      unfolding double_quoted
      escape-byte b e = rw (add-one, drop-cons s i 0 h, e)

      pub single-byte : (get_or s i 0 ≡ ch "'" → ⊥) → single_quoted cap line false (drop i s) ≡ onto_good cap line (get_or s i 0) (single_quoted cap line false (drop (i + 1) s))
      unfolding single_quoted
      single-byte n = rw (add-one, drop-cons s i 0 h, ne_eqb (get_or s i 0) (ch "'") n)

      single-quote : get_or s i 0 ≡ ch "'" → single_quoted cap line false (drop i s) ≡ single_quoted cap line true (drop (i + 1) s)
      unfolding single_quoted
      single-quote e = rw (add-one, drop-cons s i 0 h, eq-eqb (get_or s i 0) (ch "'") e)

      pub single-last : get_or s i 0 ≡ ch "'" → length s ≤ i + 1 → single_quoted cap line false (drop i s) ≡ good ([], drop (i + 1) s)
      unfolding single_quoted
      single-last e k = single-quote e ∙ rw (drop_of_length-le s {i = i + 1} k)

      pub single-shut : get_or s i 0 ≡ ch "'" → i + 1 < length s → (get_or s (i + 1) 0 ≡ ch "'" → ⊥) → single_quoted cap line false (drop i s) ≡ good ([], drop (i + 1) s)
      unfolding single_quoted
      single-shut e k n = single-quote e ∙ rw (drop-cons s (i + 1) 0 k, ne_eqb (get_or s (i + 1) 0) (ch "'") n)

      pub single-two : get_or s i 0 ≡ ch "'" → i + 1 < length s → get_or s (i + 1) 0 ≡ ch "'" → single_quoted cap line false (drop i s) ≡ onto_good cap line (ch "'") (single_quoted cap line false (drop (i + 2) s))
      unfolding single_quoted
      single-two e k f =
          let z : i + 2 ≡ suc (i + 1) = omega arith in
          single-quote e ∙ rw (z, drop-cons s (i + 1) 0 k, f)

  -- ---- the bytes that are passed

  unfoldable pub prepend : List ℕ → Content → Content
  prepend [] a = a
  prepend (b ∷ t) a = onto_good cap line b (prepend t a)

  prepend-last : (t : List ℕ) (b : ℕ) (a : Content) → prepend (t ++ (b ∷ [])) a ≡ prepend t (onto_good cap line b a)
  unfolding prepend
  prepend-last [] b a = refl
  prepend-last (c ∷ t) b a = rw (prepend-last t b a)

  prepend-good : (t u : List ℕ) (rest : List ℕ) → prepend t (good (u, rest)) ≡ good (t ++ u, rest)
  unfolding prepend
  prepend-good [] u rest = refl
  prepend-good (c ∷ t) u rest = rw (prepend-good t u rest)

  prepend-refused : (t : List ℕ) (k l st : ℕ) → prepend t (refused k l st) ≡ refused k l st
  unfolding prepend
  prepend-refused [] k l st = refl
  prepend-refused (c ∷ t) k l st = rw (prepend-refused t k l st)

  -- `size` bytes of a string that is read by `f` stand between `i` and `place`
  pub record Passed (f : List ℕ → Content) (s : List ℕ) (i place size : ℕ) : Type 0 where
    pub front : List ℕ
    pub is : f (drop i s) ≡ prepend front (f (drop place s))
    pub long : length front ≡ size

  module _ (f : List ℕ → Content) (s : List ℕ) (i : ℕ) where
    pub passed_none : Passed f s i i 0
    unfolding prepend
    passed_none = record { front = []; is = refl; long = refl }

    module _ (place size : ℕ) (p : Passed f s i place size) where
      pub passed-byte : (b n : ℕ) → f (drop place s) ≡ onto_good cap line b (f (drop n s)) → Passed f s i n (size + 1)
      passed-byte b n e = record {
        front = p.front ++ (b ∷ []);
        is = p.is ∙ ap (prepend p.front) e ∙ sym (prepend-last p.front b (f (drop n s)));
        long = length-append p.front (b ∷ []) ∙ ap (λ (k : ℕ). k + 1) p.long;
      }

      pub passed-shut : (n : ℕ) → f (drop place s) ≡ good ([], drop n s) → n ≤ length s → i + size ≤ length s → Spanned f s i n size
      passed-shut n e h k = record {
        content = p.front ++ [];
        is = p.is ∙ ap (prepend p.front) e ∙ prepend-good p.front [] (drop n s);
        long = length-append p.front [] ∙ omega (arith, p.long);
        forward = h;
        within = k;
      }

      pub passed-refused : (e : Refusal) → f (drop place s) ≡ refusal e → f (drop i s) ≡ refusal e
      passed-refused e q = p.is ∙ ap (prepend p.front) q ∙ prepend-refused p.front _ _ _

  -- ---- the bytes that are written

  -- what is left of a string's bytes begins with the byte that stands at its place
  pub next-byte : (t rest : List ℕ) (k b : ℕ) (a x : Content) → k < length t → a ≡ good (drop k t, rest) → a ≡ onto_good cap line b x → (b ≡ get_or t k 0) × (x ≡ good (drop (k + 1) t, rest))
  next-byte t rest k b a (good (u, r)) h e g =
      let d : drop k t ≡ get_or t k 0 ∷ drop (k + 1) t = rw add-one (drop-cons t k 0 h) in
      let q : ◌≡◌ {A = Content} (good (b ∷ u, r)) (good (get_or t k 0 ∷ drop (k + 1) t, rest)) = sym g ∙ e ∙ ap (λ (l : List ℕ). good (l, rest)) d in
      let l : b ∷ u ≡ get_or t k 0 ∷ drop (k + 1) t = ap (λ (x : List ℕ × List ℕ). x.0) (good-inj _ _ q) in
      let v : u ≡ drop (k + 1) t = cc in
      let w : r ≡ rest = ap (λ (x : List ℕ × List ℕ). x.1) (good-inj _ _ q) in
      (cc, rw (v, w))
  next-byte t rest k b a (refused n l st) h e g = refused≢good (drop k t, rest) n l st (sym g ∙ e)

  pub not-shut : {X : Type 0} (t rest u : List ℕ) (k : ℕ) (a : Content) → k < length t → a ≡ good (drop k t, rest) → a ≡ good ([], u) → X
  not-shut t rest u k a h e g =
      let d : drop k t ≡ get_or t k 0 ∷ drop (k + 1) t = rw add-one (drop-cons t k 0 h) in
      let q : ◌≡◌ {A = Content} (good ([], u)) (good (get_or t k 0 ∷ drop (k + 1) t, rest)) = sym g ∙ e ∙ ap (λ (l : List ℕ). good (l, rest)) d in
      let z : ◌≡◌ {A = List ℕ} [] (get_or t k 0 ∷ drop (k + 1) t) = ap (λ (x : List ℕ × List ℕ). x.0) (good-inj _ _ q) in
      absurd (omega (arith, ap length z))

  pub string-good : (role : Role) (sum : ℕ) (t rest : List ℕ) → string cap line role sum (good (t, rest)) ≡ scalar cap line role sum (str t) rest
  unfolding string ◌>>=◌
  string-good role sum t rest = refl

  pub string-refused : (role : Role) (sum : ℕ) (e : Refusal) → string cap line role sum (refusal e) ≡ refusal e
  unfolding string ◌>>=◌
  string-refused role sum e = refl

-- a quoted string whose item is put, or has no room, is read as the definition says
module _ (role : Role) (f : List ℕ → Content) (s : List ℕ) (old new : Writer) (line i next size : ℕ) (p : Spanned f s i next size) where
  reads : string (cap_of old) line role old.used (f (drop i s)) ≡ scalar (cap_of old) line role old.used (str p.content) (drop next s)
  reads = ap (string (cap_of old) line role old.used) p.is ∙ string-good (cap_of old) line role old.used p.content (drop next s)

  pub wrote_string : Appends old new (item 3 p.content) → WroteValue role (string (cap_of old) line role old.used (f (drop i s))) s old new next true
  unfolding is_key
  wrote_string q = rw reads (wrote_scalar role (str p.content) tt s old new next line p.forward true refl (rw (written_text role p.content) q))

  pub refused_string : (e : Refusal) → Lacks old new (item 3 p.content) e → Refuses (string (cap_of old) line role old.used (f (drop i s))) old new e
  refused_string e q = rw reads (refused_scalar role (str p.content) tt s old new next line p.forward e (rw (written_text role p.content) q))

pub ruleset escapes = (escape-cut, escape-unknown, escape-byte, escaped_err, escaped_ok)

pub ruleset doubles = (double-open, double-shut, double-byte)

pub ruleset singles = (single-open, single-byte, single-last, single-shut, single-two)
