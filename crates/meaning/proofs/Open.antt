-- Every definition of a file of `specs/` opened at once, for proofs that compute with them. Assumes nothing.
use Rattle.meaning.specs.Meanings.{top_keys, schema, document, known_keys, scalar_at, or_empty, check_schema, sequence_or, cons_text, texts_of, scalar_default}
use Rattle.meaning.specs.Meanings.{defaults_from, no_defaults, defaults_of, top_of, expect_of, commands, command_of, expect_allowed, is_true, step_of, step_at}
use Rattle.meaning.specs.Meanings.{steps_from, with_steps, meaning_of}
use Rattle.meaning.specs.Record.{joined, optional, expected, text_item, step_parts, step_item, defaults_parts, defaults_item, tags_item, steps_item, fields, record_of}
use Rattle.meaning.specs.Sound.{sound}

unfoldable pub Meanings-open : Unit {0}
unfolding top_keys schema document known_keys scalar_at or_empty check_schema sequence_or cons_text texts_of scalar_default defaults_from no_defaults defaults_of top_of expect_of commands command_of expect_allowed is_true step_of step_at steps_from with_steps meaning_of
Meanings-open = tt

unfoldable pub Record-open : Unit {0}
unfolding joined optional expected text_item step_parts step_item defaults_parts defaults_item tags_item steps_item fields record_of
Record-open = tt

unfoldable pub Sound-open : Unit {0}
unfolding sound
Sound-open = tt
