-- The commands are simple, and the values that a parse finds are those of the definitions.
use Rattle.std.proofs.Common.{◌≡◌, List, ℕ, Option, Some, None, true, refl, sym, ap, ap₂, ◌∙◌, cond, codes, option_map}
use Rattle.clap.specs.Words.{App, HasMatchesOf, first_of, first_value, found_of, is_simple, is_simple_and_free, matches_of}
use Rattle.clap.specs.declared.ArgMatches.{ArgMatches}
use Rattle.clap.proofs.WalkLemmas.{first_value-rows}
use Rattle.clap.proofs.OnLiterals.{clap_on_literals}
use Rattle.command_line.specs.KeptWords.{kept_app, kept_options, kept_with}
use Rattle.command_line.specs.ListenKeptWords.{ListenKept, listen_kept_app, listen_kept_options, listen_kept_with}
use Rattle.command_line.specs.WebsocketWords.{websocket_app, websocket_options, websocket_with}
use Rattle.command_line.specs.Commands.{Listen, batch, batch_app, batch_of, listen_app, listen_of, listen_with, stdio, stdio_app, stdio_of, workload_app, workload_of, workload_with, accepts, value_of}

pub batch_is_simple : is_simple batch_app ≡ true
unfolding batch_app clap_on_literals
batch_is_simple = refl

pub batch_is_free : is_simple_and_free batch_app ≡ true
unfolding batch_app clap_on_literals
batch_is_free = refl

pub stdio_is_simple : is_simple stdio_app ≡ true
unfolding stdio_app clap_on_literals
stdio_is_simple = refl

pub stdio_is_free : is_simple_and_free stdio_app ≡ true
unfolding stdio_app clap_on_literals
stdio_is_free = refl

-- the value of an option, as a parse of a command has it
value_found : (app known : App) (words : List (List ℕ)) (m : ArgMatches) (name : List ℕ) → app ≡ known → is_simple known ≡ true
    → HasMatchesOf app words m → first_value (found_of m) name ≡ value_of known words name
value_found app known words m name is simple h =
    first_value-rows (found_of m) name
    ∙ ap (first_of name) ((h (ap is_simple is ∙ simple)).0 ∙ ap (λ (a : App). matches_of a words) is)

pub batch_found : (app : App) (words : List (List ℕ)) (m : ArgMatches) (config user : Option (List ℕ)) → app ≡ batch_app
    → accepts app words ≡ true → HasMatchesOf app words m
    → config ≡ first_value (found_of m) (codes "config") → user ≡ first_value (found_of m) (codes "user")
    → Some (batch config user) ≡ batch_of words
batch_found app words m config user is taken h c u =
    let value = λ (name : List ℕ). value_of batch_app words name in
    let same : Some (batch config user) ≡ Some (batch (value (codes "config")) (value (codes "user"))) =
    ap₂ (λ (x y : Option (List ℕ)). Some (batch x y))
    (c ∙ value_found app batch_app words m (codes "config") is batch_is_simple h)
    (u ∙ value_found app batch_app words m (codes "user") is batch_is_simple h) in
    same ∙ sym (ap (λ b. cond b (Some (batch (value (codes "config")) (value (codes "user")))) None) (ap (λ (a : App). accepts a words) (sym is) ∙ taken))

pub stdio_found : (app : App) (words : List (List ℕ)) (m : ArgMatches) (config : Option (List ℕ)) → app ≡ stdio_app
    → accepts app words ≡ true → HasMatchesOf app words m
    → config ≡ first_value (found_of m) (codes "config")
    → option_map stdio config ≡ stdio_of words
stdio_found app words m config is taken h c =
    ap (option_map stdio) (c ∙ value_found app stdio_app words m (codes "config") is stdio_is_simple h)
    ∙ sym (ap (λ b. cond b (option_map stdio (value_of stdio_app words (codes "config"))) None) (ap (λ (a : App). accepts a words) (sym is) ∙ taken))

pub workload_is_simple : is_simple workload_app ≡ true
unfolding workload_app clap_on_literals
workload_is_simple = refl

pub workload_is_free : is_simple_and_free workload_app ≡ true
unfolding workload_app clap_on_literals
workload_is_free = refl

pub workload_found : (app : App) (words : List (List ℕ)) (m : ArgMatches) (number size : Option (List ℕ)) → app ≡ workload_app
    → accepts app words ≡ true → HasMatchesOf app words m
    → number ≡ first_value (found_of m) (codes "number") → size ≡ first_value (found_of m) (codes "size")
    → workload_with number size ≡ workload_of words
workload_found app words m number size is taken h n s =
    let value = λ (name : List ℕ). value_of workload_app words name in
    ap₂ workload_with
    (n ∙ value_found app workload_app words m (codes "number") is workload_is_simple h)
    (s ∙ value_found app workload_app words m (codes "size") is workload_is_simple h)
    ∙ sym (ap (λ b. cond b (workload_with (value (codes "number")) (value (codes "size"))) None) (ap (λ (a : App). accepts a words) (sym is) ∙ taken))

pub listen_is_simple : is_simple listen_app ≡ true
unfolding listen_app clap_on_literals
listen_is_simple = refl

pub listen_is_free : is_simple_and_free listen_app ≡ true
unfolding listen_app clap_on_literals
listen_is_free = refl

pub listen_found : (app : App) (words : List (List ℕ)) (m : ArgMatches) (config port workers connections log sockets many : Option (List ℕ)) → app ≡ listen_app
    → accepts app words ≡ true → HasMatchesOf app words m
    → config ≡ first_value (found_of m) (codes "config") → port ≡ first_value (found_of m) (codes "port")
    → workers ≡ first_value (found_of m) (codes "workers") → connections ≡ first_value (found_of m) (codes "connections") → log ≡ first_value (found_of m) (codes "log")
    → sockets ≡ first_value (found_of m) (codes "sockets-port") → many ≡ first_value (found_of m) (codes "socket-workers")
    → listen_with config port workers connections log sockets many ≡ listen_of words
listen_found app words m config port workers connections log sockets many is taken h c p w n f q v =
    let value = λ (name : List ℕ). value_of listen_app words name in
    let found : (name : List ℕ) (o : Option (List ℕ)) → o ≡ first_value (found_of m) name → o ≡ value_of listen_app words name =
    λ name o e. e ∙ value_found app listen_app words m name is listen_is_simple h in
    let all = listen_with (value (codes "config")) (value (codes "port")) (value (codes "workers")) (value (codes "connections")) (value (codes "log"))
    (value (codes "sockets-port")) (value (codes "socket-workers")) in
    let same : listen_with config port workers connections log sockets many ≡ all =
    (λ i. listen_with (found (codes "config") config c i) (found (codes "port") port p i) (found (codes "workers") workers w i) (found (codes "connections") connections n i) (found (codes "log") log f i)
    (found (codes "sockets-port") sockets q i) (found (codes "socket-workers") many v i)) in
    same ∙ sym (ap (λ b. cond b all None) (ap (λ (a : App). accepts a words) (sym is) ∙ taken))

pub kept_is_simple : is_simple kept_app ≡ true
unfolding kept_app clap_on_literals
kept_is_simple = refl

pub kept_is_free : is_simple_and_free kept_app ≡ true
unfolding kept_app clap_on_literals
kept_is_free = refl

pub kept_found : (app : App) (words : List (List ℕ)) (m : ArgMatches) (config journal user : Option (List ℕ)) → app ≡ kept_app
    → accepts app words ≡ true → HasMatchesOf app words m
    → config ≡ first_value (found_of m) (codes "config") → journal ≡ first_value (found_of m) (codes "journal") → user ≡ first_value (found_of m) (codes "user")
    → kept_with config journal user ≡ kept_options words
kept_found app words m config journal user is taken h c j u =
    let value = λ (name : List ℕ). value_of kept_app words name in
    let found : (name : List ℕ) (o : Option (List ℕ)) → o ≡ first_value (found_of m) name → o ≡ value_of kept_app words name =
    λ name o e. e ∙ value_found app kept_app words m name is kept_is_simple h in
    let all = kept_with (value (codes "config")) (value (codes "journal")) (value (codes "user")) in
    let same : kept_with config journal user ≡ all = (λ i. kept_with (found (codes "config") config c i) (found (codes "journal") journal j i) (found (codes "user") user u i)) in
    same ∙ sym (ap (λ b. cond b all None) (ap (λ (a : App). accepts a words) (sym is) ∙ taken))

pub listen_kept_is_simple : is_simple listen_kept_app ≡ true
unfolding listen_kept_app listen_app clap_on_literals
listen_kept_is_simple = refl

pub listen_kept_is_free : is_simple_and_free listen_kept_app ≡ true
unfolding listen_kept_app listen_app clap_on_literals
listen_kept_is_free = refl

pub listen_kept_found : (app : App) (words : List (List ℕ)) (m : ArgMatches) (listen : Option Listen) (config port workers connections log sockets many journals : Option (List ℕ)) → app ≡ listen_kept_app
    → accepts app words ≡ true → HasMatchesOf app words m → listen ≡ listen_with config port workers connections log sockets many
    → config ≡ first_value (found_of m) (codes "config") → port ≡ first_value (found_of m) (codes "port")
    → workers ≡ first_value (found_of m) (codes "workers") → connections ≡ first_value (found_of m) (codes "connections") → log ≡ first_value (found_of m) (codes "log")
    → sockets ≡ first_value (found_of m) (codes "sockets-port") → many ≡ first_value (found_of m) (codes "socket-workers") → journals ≡ first_value (found_of m) (codes "journals")
    → listen_kept_with listen journals ≡ listen_kept_options words
listen_kept_found app words m listen config port workers connections log sockets many journals is taken h with c p w n f q v j =
    let value = λ (name : List ℕ). value_of listen_kept_app words name in
    let found : (name : List ℕ) (o : Option (List ℕ)) → o ≡ first_value (found_of m) name → o ≡ value_of listen_kept_app words name =
    λ name o e. e ∙ value_found app listen_kept_app words m name is listen_kept_is_simple h in
    let all : Option ListenKept = listen_kept_with (listen_with (value (codes "config")) (value (codes "port")) (value (codes "workers")) (value (codes "connections")) (value (codes "log"))
    (value (codes "sockets-port")) (value (codes "socket-workers"))) (value (codes "journals")) in
    let same : listen_kept_with (listen_with config port workers connections log sockets many) journals ≡ all =
    (λ i. listen_kept_with (listen_with (found (codes "config") config c i) (found (codes "port") port p i) (found (codes "workers") workers w i) (found (codes "connections") connections n i) (found (codes "log") log f i)
    (found (codes "sockets-port") sockets q i) (found (codes "socket-workers") many v i))
    (found (codes "journals") journals j i)) in
    ap (λ (l : Option Listen). listen_kept_with l journals) with ∙ same ∙ sym (ap (λ b. cond b all None) (ap (λ (a : App). accepts a words) (sym is) ∙ taken))

pub websocket_is_simple : is_simple websocket_app ≡ true
unfolding websocket_app clap_on_literals
websocket_is_simple = refl

pub websocket_is_free : is_simple_and_free websocket_app ≡ true
unfolding websocket_app clap_on_literals
websocket_is_free = refl

pub websocket_found : (app : App) (words : List (List ℕ)) (m : ArgMatches) (config port connections : Option (List ℕ)) → app ≡ websocket_app
    → accepts app words ≡ true → HasMatchesOf app words m
    → config ≡ first_value (found_of m) (codes "config") → port ≡ first_value (found_of m) (codes "port") → connections ≡ first_value (found_of m) (codes "connections")
    → websocket_with config port connections ≡ websocket_options words
websocket_found app words m config port connections is taken h c p n =
    let value = λ (name : List ℕ). value_of websocket_app words name in
    let found : (name : List ℕ) (o : Option (List ℕ)) → o ≡ first_value (found_of m) name → o ≡ value_of websocket_app words name =
    λ name o e. e ∙ value_found app websocket_app words m name is websocket_is_simple h in
    let all = websocket_with (value (codes "config")) (value (codes "port")) (value (codes "connections")) in
    let same : websocket_with config port connections ≡ all = (λ i. websocket_with (found (codes "config") config c i) (found (codes "port") port p i) (found (codes "connections") connections n i)) in
    same ∙ sym (ap (λ b. cond b all None) (ap (λ (a : App). accepts a words) (sym is) ∙ taken))
