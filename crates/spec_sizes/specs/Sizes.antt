-- How many bytes the objects of changes have.
use Rattle.std.specs.Prelude.{ℕ, List, ◌&&◌, Bool, Option, Some, None, drop, filter, length, nat_le, sum_by}
use Rattle.spec_history.specs.History.{count_of_kind, is_kind}
use Rattle.spec_history.specs.Pages.{is_retained}
use Rattle.spec_history.specs.declared.entry.Change.{Change}
use Rattle.spec_history.specs.declared.entry.Kind.{Kind}
use Rattle.spec_json.specs.Json.{text_of}
use Rattle.spec_json.specs.TreeData.{data_of}
use Rattle.spec_json.specs.declared.tree.Tree.{Tree}

-- the bytes of an object's compact text; a removal has none
abbrev pub size_of_object : Option Tree → ℕ
size_of_object None = 0
size_of_object (Some t) = length (text_of (data_of t))

abbrev pub size_of : List Change → ℕ
size_of cs = sum_by (λ c. size_of_object c.object) cs

abbrev pub of_kind : Kind → List Change → List Change
of_kind kind cs = filter (λ c. is_kind kind c.kind) cs

-- how many bytes the changes of a kind behind a state may put together, where it is still answered from
abbrev pub window_bytes : ℕ
window_bytes = 16777216

-- a state of a kind is answered from (RFC 8620 section 5.2): it was reached, at most the window back, and the changes behind it put no more bytes than may be
abbrev pub is_answered_from : Kind → List Change → ℕ → Bool
is_answered_from kind cs k = is_retained (count_of_kind cs kind) k && nat_le (size_of (drop k (of_kind kind cs))) window_bytes
