-- The argument `sort` of a query (RFC 8620 section 5.5).
use Rattle.std.specs.Prelude.{ℕ, List, [], ◌&&◌, ◌||◌, Bool, true, Option, Some, None, option_map, option_and_then, is_some, if◌then◌else◌, length, nat_le, codes}
use Rattle.std.specs.List.{list_all}
use Rattle.std.specs.Str.{bytes_eq}
use Rattle.spec_json.specs.Data.{Data, truth, text, field}
use Rattle.spec_json.specs.Parts.{all_some, as_list, as_text, as_truth, is_null, text_at}
use Rattle.spec_queries.specs.declared.comparator.Property.{Property}
use Rattle.spec_queries.specs.declared.comparator.Property.TheVariants.{Start, Uid, Title, Created, Updated}
use Rattle.spec_queries.specs.declared.comparator.Comparator.{Comparator}
use Rattle.spec_queries.specs.declared.comparator.TheConstants.{MAX_COMPARATORS}

-- a member that is absent or null, or passes
abbrev pub is_absent_or : (Data → Bool) → Option Data → Bool
is_absent_or test None = true
is_absent_or test (Some d) = is_null d || test d

-- an object with a property, and maybe a direction and a collation; other members are ignored
abbrev pub is_comparator : Data → Bool
is_comparator d = is_some (text_at (codes "property") d)
    && is_absent_or (λ v. is_some (as_truth v)) (field (codes "isAscending") d)
    && is_absent_or (λ v. is_some (as_text v)) (field (codes "collation") d)

abbrev pub property_named : List ℕ → Option Property
property_named s =
    if bytes_eq s (codes "start") then Some Start else
    if bytes_eq s (codes "uid") then Some Uid else
    if bytes_eq s (codes "title") then Some Title else
    if bytes_eq s (codes "created") then Some Created else
    if bytes_eq s (codes "updated") then Some Updated else None

-- the property, where it is known
abbrev pub property_in : Data → Option Property
property_in d = option_and_then property_named (text_at (codes "property") d)

-- ascending, where the comparator doesn't say
abbrev pub is_ascending : Option Data → Bool
is_ascending (Some (truth b)) = b
is_ascending _ = true

-- `i;octet`, where the comparator doesn't say
abbrev pub is_octet : Option Data → Bool
is_octet (Some (text s)) = bytes_eq s (codes "i;octet")
is_octet _ = true

-- the comparator, where its property and its collation are known
abbrev pub comparator_in : Data → Option Comparator
comparator_in d =
    if is_octet (field (codes "collation") d)
    then option_map (λ p. record { property = p; ascending = is_ascending (field (codes "isAscending") d) }) (property_in d)
    else None

-- null counts as absent, which is no comparator
abbrev pub sort_items : Data → Option (List Data)
sort_items d = if is_null d then Some [] else as_list d

-- what the argument asks for: `invalidArguments`, `unsupportedSort`, or an order by these comparators
pub data Sort : Type 0 where
  bad_sort : Sort
  unsupported_sort : Sort
  by_comparators : List Comparator → Sort

abbrev pub known_sort : Option (List Comparator) → Sort
known_sort None = unsupported_sort
known_sort (Some cs) = by_comparators cs

-- a comparator of another shape, or too many of them, before one whose property or collation isn't known
abbrev pub sort_of : Option (List Data) → Sort
sort_of None = bad_sort
sort_of (Some ds) = if nat_le (length ds) MAX_COMPARATORS && list_all is_comparator ds then known_sort (all_some comparator_in ds) else bad_sort

abbrev pub sort_in : Data → Sort
sort_in d = sort_of (sort_items d)
