-- Entries by their author.
use Rattle.std.specs.Prelude.{◌≡◌, ℕ, List, [], ◌∷◌, ◌++◌, ◌==◌, filter}
use Rattle.spec_history.specs.declared.entry.Entry.{Entry}

-- these carry the author and the turn of one call
abbrev pub AreSigned : ℕ → ℕ → List Entry → Type 0
AreSigned author turn [] = Unit {0}
AreSigned author turn (e ∷ es) = (e.author ≡ author) × (e.turn ≡ turn) × AreSigned author turn es

-- the entries of one author
abbrev pub written_by : ℕ → List Entry → List Entry
written_by author es = filter (λ e. e.author == author) es

abbrev pub Begins : List Entry → List Entry → Type 0
Begins h start = (rest : List Entry) × (h ≡ start ++ rest)

-- h is the start and then entries of others than this author
abbrev pub Extends : ℕ → List Entry → List Entry → Type 0
Extends author start h = (between : List Entry) × (h ≡ start ++ between) × (written_by author between ≡ [])
