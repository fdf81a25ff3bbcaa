-- How much an account may hold: the server's limit, beyond which a SetError is `overQuota` (RFC 8620 section 5.3).
use Rattle.std.specs.Prelude.{ℕ, List, [], ◌∷◌, ◌++◌, ◌&&◌, ◌||◌, Bool, not, is_some, length, nat_lt, sum_by}
use Rattle.cal_model.specs.declared.limits.TheConstants.{MAX_CHANGES, MAX_OBJECT_BYTES, MAX_OBJECTS}
use Rattle.spec_history.specs.History.{live_at}
use Rattle.spec_history.specs.declared.entry.Change.{Change}
use Rattle.spec_history.specs.declared.entry.Kind.TheVariants.{Calendar, Event}
use Rattle.spec_json.specs.Json.{text_of}
use Rattle.spec_json.specs.TreeData.{data_of}
use Rattle.spec_json.specs.declared.tree.Tree.{Tree}
pub use Rattle.spec_sizes.specs.Sizes.{size_of_object}

-- the objects that there are, of both kinds
abbrev pub live_objects : List Change → List Tree
live_objects cs = live_at cs Calendar ++ live_at cs Event

-- the bytes of their compact texts
abbrev pub live_size : List Change → ℕ
live_size cs = sum_by (λ t. length (text_of (data_of t))) (live_objects cs)

-- One change more is more than an account may have: it has had as many as it may ever have; or the change puts an object, and more objects or bytes
-- would be live then than may be.
abbrev pub exceeds_quota : List Change → Change → Bool
exceeds_quota cs c = not (nat_lt (length cs) MAX_CHANGES)
    || (is_some c.object && (nat_lt MAX_OBJECTS (length (live_objects (cs ++ c ∷ []))) || nat_lt MAX_OBJECT_BYTES (live_size (cs ++ c ∷ []))))
