-- What comes of reading the filter of a query.
use Rattle.std.specs.Prelude.{◌≡◌, Bool, true, false, Result, Ok, Err}
use Rattle.spec_filters.specs.Filters.{is_bad_filter}
use Rattle.spec_json.specs.Data.{Data}
use Rattle.spec_queries.specs.Criteria.{lacks_support}
use Rattle.query_filter.specs.declared.filter.FilterError.{FilterError}
use Rattle.query_filter.specs.declared.filter.FilterError.TheVariants.{Bad, Unsupported, NoMemory}

-- the filter itself; what is bad apart from what isn't supported, by whether each occurrence is to be a result of its own
abbrev pub IsReadFor : Bool → Data → Result Data FilterError → Type 0
IsReadFor expand d (Ok filter) = (is_bad_filter d ≡ false) × (lacks_support expand d ≡ false) × (filter ≡ d)
IsReadFor expand d (Err Bad) = is_bad_filter d ≡ true
IsReadFor expand d (Err Unsupported) = (is_bad_filter d ≡ false) × (lacks_support expand d ≡ true)
IsReadFor expand d (Err NoMemory) = Unit {0}
