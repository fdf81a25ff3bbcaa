-- The posts of workers: what the hosts are asked for, and which serve sockets.
use Rattle.std.proofs.Common.{◌≡◌, ℕ, ◌+◌, ◌++◌, Bool, true, false, List, [], ◌∷◌, Err, None, Option, Some, append-nil, length, map, option_map, refl, sym, ap, ◌∙◌, arith, length-append}
use Rattle.std.proofs.lemmas.List.{length-map, map-append}
use Rattle.std.specs.Prelude.{replicate}
use mathlib.Core.List.{map-map}
use mathlib.Core.Logic.{inl, inr}
use Rattle.command_line.specs.Commands.{Listen, socket_port, socket_workers}
use Rattle.jmapd_listen.specs.Hosts.{OpensPosts}
use Rattle.listen_edge.specs.Listening.{HostShown, ListenerShown}
use Rattle.listen_edge.specs.declared.host.HostError.{HostError}
use Rattle.listen_edge.specs.declared.host.HostError.TheVariants.{Failed, NoMemory}
use Rattle.listen_workers.specs.Listeners.{AskedFor, OpensHow}
use Rattle.listen_workers.specs.Posts.{is_for_sockets}
use Rattle.listen_workers.specs.PostsShown.{post_shown}
use Rattle.listen_workers.specs.declared.post.Post.{Post}
use Rattle.listen_workers.specs.declared.post.Post.TheVariants.{Connections, Sockets}
use Rattle.ws_edge.specs.Accepting.{AcceptShown}

-- ---- what the hosts are asked for

module _ (l : Listen) (h h1 g : HostShown) (L P : Type 0) where
  -- the host of connections made no listener for a worker
  pub no_listener : (e : HostError) → OpensHow {L = L} l.port l.workers h h1 (Err e) → OpensPosts l (record { connections = h; sockets = g }) (record { connections = h1; sockets = g }) {P = P} (Err e)
  no_listener Failed how = inl (how.0, how.1, refl)
  no_listener NoMemory how = inl (how, refl)

  module _ (g1 : HostShown) (asked : AskedFor h h1 l.port l.workers) where
    -- it made all of them, and that of sockets made nothing for a worker
    pub no_accepter : (e : HostError) → OpensHow {L = L} (socket_port l.sockets) (socket_workers l.sockets) g g1 (Err e)
        → OpensPosts l (record { connections = h; sockets = g }) (record { connections = h1; sockets = g1 }) {P = P} (Err e)
    no_accepter Failed how = inr (asked, how.0, how.1)
    no_accepter NoMemory how = inr (asked, how)

    -- both made all of theirs, and there is no memory for the list of them
    pub no_list : AskedFor g g1 (socket_port l.sockets) (socket_workers l.sockets) → OpensPosts l (record { connections = h; sockets = g }) (record { connections = h1; sockets = g1 }) {P = P} (Err NoMemory)
    no_list these = inr (asked, (socket_workers l.sockets, omega arith, these))

-- where there are no workers of sockets, nothing is asked for
pub none_asked : (asked : Option (List (ℕ × ℕ))) → asked ≡ option_map (λ pairs. pairs ++ []) asked
none_asked None = refl
none_asked (Some pairs) = ap Some (sym (append-nil pairs))

-- ---- which serve sockets

all_same : {X : Type 0} (f : X → Bool) (b : Bool) → ((x : X) → f x ≡ b) → (xs : List X) → map f xs ≡ replicate (length xs) b
all_same f b same [] = refl
all_same f b same (x ∷ xs) = (λ i. same x i ∷ all_same f b same xs i)

module _ {L A : Type 0} (listener : L → ListenerShown) (accepter : A → AcceptShown) where
  abbrev kind : Post L A → Bool
  kind post = is_for_sockets (post_shown listener accepter post)

  pub kinds_of : (posts : List (Post L A)) (ls : List L) (bs : List A) (n m : ℕ) → posts ≡ map Connections ls ++ map Sockets bs → length ls ≡ n → length bs ≡ m → map kind posts ≡ replicate n false ++ replicate m true
  kinds_of posts ls bs n m are these those =
      ap (map kind) are
      ∙ (map-append kind (map Connections ls) (map Sockets bs)
      ∙ (λ i. (map-map kind Connections ls ∙ (all_same (λ (x : L). kind (Connections x)) false (λ x. refl) ls ∙ ap (λ (k : ℕ). replicate k false) these)) i
      ++ (map-map kind Sockets bs ∙ (all_same (λ (x : A). kind (Sockets x)) true (λ x. refl) bs ∙ ap (λ (k : ℕ). replicate k true) those)) i))

  pub count_of : (posts : List (Post L A)) (ls : List L) (bs : List A) (n m : ℕ) → posts ≡ map Connections ls ++ map Sockets bs → length ls ≡ n → length bs ≡ m → length posts ≡ n + m
  count_of posts ls bs n m are these those =
      let all = ap length are in
      let parts = length-append (map Connections ls) (map Sockets bs) in
      let left = length-map {B = Post L A} ls Connections in
      let right = length-map {B = Post L A} bs Sockets in
      omega (arith, all, parts, left, right, these, those)
