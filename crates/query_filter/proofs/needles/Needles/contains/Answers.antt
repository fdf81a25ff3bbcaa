use Rattle.std.proofs.Common.{◌∙◌, IsAscii, subst}
use Rattle.query_filter.proofs.AsciiLemmas.{ascii_contains}
use Rattle.query_filter.proofs.needles.Needles.contains.Goals as goal

pub returns-then-is_ascii-2 : goal.returns-then-is_ascii-2
returns-then-is_ascii-2 c =
    let needle = subst IsAscii c.as_str-sought.ensures c.if-is_ascii.ensures.cases in
    c.stands_in.ensures
    ∙ rw (c.as_bytes-then-is_ascii-2.ensures.value, c.as_str-sought.ensures, c.as_bytes.ensures.value) (ascii_contains c.args.text.now c.args.needle.now c.if-is_ascii-2.ensures.cases needle)
