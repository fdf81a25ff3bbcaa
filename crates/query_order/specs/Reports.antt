-- What a refusal says of a sort.
use Rattle.std.specs.Prelude.{◌≡◌}
use Rattle.spec_queries.specs.Sorts.{Sort, bad_sort, unsupported_sort}
use Rattle.query_order.specs.declared.sort_argument.SortError.{SortError}
use Rattle.query_order.specs.declared.sort_argument.SortError.TheVariants.{BadSort, UnsupportedSort, NoMemory}

-- the refusal is the sort's own; out of memory says nothing
abbrev pub Reports : SortError → Sort → Type 0
Reports BadSort s = s ≡ bad_sort
Reports UnsupportedSort s = s ≡ unsupported_sort
Reports NoMemory s = Unit {0}
