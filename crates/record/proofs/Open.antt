-- Every definition of a file of `specs/` opened at once, for proofs that compute with them. Assumes nothing.
use Rattle.record.specs.Jobs.{opened, check_record, part_at, numbered, field, steps_start, step, part_of}
use Rattle.record.specs.Read.{field_of, as_text, as_optional, as_flag, as_items, as_command, as_expect, content, in_item, many, all, step_in, defaults_in, rest_in, fields_in, meaning_in}

unfoldable pub Jobs-open : Unit {0}
unfolding opened check_record part_at numbered field steps_start step part_of
Jobs-open = tt

unfoldable pub Read-open : Unit {0}
unfolding field_of as_text as_optional as_flag as_items as_command as_expect content in_item many all step_in defaults_in rest_in fields_in meaning_in
Read-open = tt
