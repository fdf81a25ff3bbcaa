-- What comes of reading a filter.
use Rattle.std.specs.Prelude.{◌≡◌, true, false, Result, Ok, Err}
use Rattle.spec_filters.specs.Filters.{is_bad_filter, is_unsupported_filter}
use Rattle.spec_json.specs.Data.{Data}
use Rattle.query_filter.specs.declared.filter.FilterError.{FilterError}
use Rattle.query_filter.specs.declared.filter.FilterError.TheVariants.{Bad, Unsupported, NoMemory}

-- the filter itself, bad ones and then unsupported ones apart; out of memory says nothing
abbrev pub IsRead : Data → Result Data FilterError → Type 0
IsRead d (Ok filter) = (is_bad_filter d ≡ false) × (is_unsupported_filter d ≡ false) × (filter ≡ d)
IsRead d (Err Bad) = is_bad_filter d ≡ true
IsRead d (Err Unsupported) = (is_bad_filter d ≡ false) × (is_unsupported_filter d ≡ true)
IsRead d (Err NoMemory) = Unit {0}
