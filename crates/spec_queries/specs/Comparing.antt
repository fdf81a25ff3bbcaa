-- How the comparators of a query compare two items (RFC 8620 section 5.5).
use Rattle.std.specs.Prelude.{List, [], ◌∷◌, if◌then◌else◌}
use Rattle.std.specs.declared.cmp.Ordering.{Ordering}
use Rattle.std.specs.declared.cmp.Ordering.TheVariants.{Equal}
use Rattle.std.specs.Ordering.{int_cmp, nat_cmp, ordering_then}
use Rattle.std.specs.Cmp.Lexicographic.{slice_cmp}
use Rattle.spec_queries.specs.declared.item.Item.{Item}
use Rattle.spec_queries.specs.declared.comparator.Property.{Property}
use Rattle.spec_queries.specs.declared.comparator.Property.TheVariants.{Start, Uid, Title, Created, Updated}
use Rattle.spec_queries.specs.declared.comparator.Comparator.{Comparator}

-- moments by size, texts byte by byte, which is the collation `i;octet` (RFC 4790 section 9.3)
abbrev pub by_property : Property → Item → Item → Ordering
by_property Start a b = int_cmp a.start b.start
by_property Uid a b = slice_cmp nat_cmp a.uid b.uid
by_property Title a b = slice_cmp nat_cmp a.title b.title
by_property Created a b = int_cmp a.created b.created
by_property Updated a b = int_cmp a.updated b.updated

abbrev pub by_comparator : Comparator → Item → Item → Ordering
by_comparator c a b = if c.ascending then by_property c.property a b else by_property c.property b a

-- the first comparator that tells the two apart decides
abbrev pub by_all : List Comparator → Item → Item → Ordering
by_all [] a b = Equal
by_all (c ∷ cs) a b = ordering_then (by_comparator c a b) (by_all cs a b)
