-- What is looked for in a filter.
use Rattle.spec_filters.specs.Filters.{Sought, fault, time, unknown}
use Rattle.query_filter.specs.declared.sought.SoughtKind.{SoughtKind}
use Rattle.query_filter.specs.declared.sought.SoughtKind.TheVariants.{Fault, Unknown, Time}

abbrev pub sought_of : SoughtKind → Sought
sought_of Fault = fault
sought_of Unknown = unknown
sought_of Time = time
