-- The definitions computed on texts of document 01. Assumes nothing.
use Rattle.std.proofs.Common.{◌≡◌, refl, ℕ, negsuc}
use Prim.Native.String.{String}
use Rattle.std.proofs.Math.Option.{some}
use Rattle.refusal.specs.Base.{Answer, good, refused, bytes}
use Rattle.refusal.proofs.Open.{Base-open}
use Rattle.utf8.proofs.Open.{Utf8-open, White-open}
use Rattle.item.specs.Tree.{Yaml, null, int, str, seq, dict, end, ◌▸◌, done, pair}
use Rattle.item.proofs.Open.{Tree-open}
use Rattle.number.proofs.Open.{Integers-open}
use Rattle.scalar.specs.Scalars.{scalar_of, key_text}
use Rattle.scalar.proofs.Open.{Scalars-open, Read-open}
use Rattle.scalar.specs.declared.Role.TheVariants.{AsValue}
use Rattle.flow.specs.Flow.{flow}
use Rattle.flow.proofs.Open.{Flow-open}

s1 : scalar_of (bytes "-9223372036854775808") ≡ int (negsuc 9223372036854775807)
unfolding Base-open Utf8-open Integers-open Scalars-open
s1 = refl

s2 : scalar_of (bytes "9223372036854775808") ≡ str (bytes "9223372036854775808")
unfolding Base-open Utf8-open Integers-open Scalars-open
s2 = refl

s3 : key_text (scalar_of (bytes "-9223372036854775808")) ≡ some (bytes "-9223372036854775808")
unfolding Base-open Utf8-open Integers-open Scalars-open
s3 = refl

abbrev try : String → Answer (Yaml × ℕ)
try s = flow 1000 1 32 AsValue 0 (bytes s)

t1 : try "[,]" ≡ good (seq (null ▸ end), 12)
unfolding Base-open Utf8-open White-open Tree-open Integers-open Scalars-open Read-open Flow-open
t1 = refl

t2 : try "{,}" ≡ refused 16 1 0
unfolding Base-open Utf8-open White-open Tree-open Integers-open Scalars-open Read-open Flow-open
t2 = refl

t3 : try "[a: b]" ≡ refused 19 1 0
unfolding Base-open Utf8-open White-open Tree-open Integers-open Scalars-open Read-open Flow-open
t3 = refl

t4 : try "[[[[[[[[[[[[[[[[[[[[[[[[[[[[[[[[[]]]]]]]]]]]]]]]]]]]]]]]]]]]]]]]]]" ≡ refused 20 1 0
unfolding Base-open Utf8-open White-open Tree-open Integers-open Scalars-open Read-open Flow-open
t4 = refl

t5 : try "{a: [b, 'it''s'], c: {d: \"x\\ty\"}}" ≡ good (dict (pair (bytes "a") (seq (str (bytes "b") ▸ str (bytes "it's") ▸ end)) (pair (bytes "c") (dict (pair (bytes "d") (str (bytes "x\ty")) done)) done)), 65)
unfolding Base-open Utf8-open White-open Tree-open Integers-open Scalars-open Read-open Flow-open
t5 = refl
