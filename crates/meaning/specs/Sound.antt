-- Section 5 of document 01: what it asks of every tree in a record, apart from its levels. Uses Utf8 of `utf8`; Tree of `item`. Assumes
-- nothing.
use Rattle.std.specs.Prelude.{◌^◌, Bool, true, ◌&&◌, not, ltb}
use Rattle.std.specs.Int.Signed.{mag}
use Rattle.utf8.specs.Utf8.{is_utf8}
use Rattle.item.specs.Tree.{Shape, Node, null, bool, int, str, seq, dict, end, ◌▸◌, done, pair, has_key}

-- strings, keys too, are UTF-8; integers have 64 bits; each mapping's keys differ
unfoldable pub sound : {s : Shape} → Node s → Bool
sound null = true
sound (bool b) = true
sound (int z) = ltb (mag z) (2 ^ 63)
sound (str s) = is_utf8 s
sound (seq ys) = sound ys
sound (dict es) = sound es
sound end = true
sound (y ▸ ys) = sound y && sound ys
sound done = true
sound (pair k v es) = is_utf8 k && (not (has_key k es) && (sound v && sound es))
