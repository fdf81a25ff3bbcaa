-- What comes of jobs and of what they gave back: workers that ended.
use Rattle.std.proofs.Common.{◌≡◌, ℕ, suc, ◌*◌, ◌<◌, ◌&&◌, Bool, true, false, List, [], ◌∷◌, length, map, refl, sym, ap, ◌∙◌, subst, arith, inl, inr}
use Rattle.std.proofs.lemmas.Bool.{and_parts}
use Rattle.std.proofs.lemmas.List.Elements.{All-cons, All-nil}
use Rattle.std.proofs.lemmas.List.Sums.{sum-map, sum_by-cons}
use Rattle.std.proofs.lemmas.List.Folds.{list_all-map}
use mathlib.Core.List.{map-map}
use Rattle.std.specs.List.{AllZip, list_all, sum}
use Rattle.std.specs.Prelude.{All, sum_by}
use Rattle.listen_edge.specs.Ending.{counted, faults_in}
use Rattle.listen_edge.specs.declared.job.WorkerDone.{WorkerDone}
use Rattle.listen_workers.specs.Crew.{Ends, is_all}
use Rattle.listen_workers.specs.Posts.{EndedWorker, PostShown, WorksAt, is_for_sockets}
use Rattle.listen_workers.specs.Working.{Tools}
use Rattle.spec_batch.specs.Chain.{Shown}
use Rattle.spec_site.specs.Configuration.{Site}
use Rattle.jmapd_listen.specs.Listens.{HaveEnded, SpawnerShown, WorksWhole}

-- ---- the workers of jobs

module _ {J K : Type 0} (site : Site) (connections : ℕ) (site_of : J → Site) (connections_of : J → ℕ) (post : J → PostShown) (tools : J → Tools) (post' : K → PostShown) (tools' : K → Tools) (done : K → WorkerDone) where
  abbrev MayAnswer : J → K → Type 0
  MayAnswer j b = WorksWhole (site_of j) (connections_of j) (post j) (post' b) (tools j) (tools' b) (done b)

  record AreOf (jobs : List J) (backs : List K) (workers : List (EndedWorker site connections)) : Type 0 where
    pub began : map (λ w. w.tools.desk) workers ≡ map (λ j. (tools j).desk) jobs
    pub posted : map (λ w. is_for_sockets w.post) workers ≡ map (λ j. is_for_sockets (post j)) jobs
    pub ends : All (λ w. Ends connections w.done) workers
    pub dones : map (λ w. w.done) workers ≡ map done backs

  abbrev worker_of : (j : J) (b : K) → MayAnswer j b → connections_of j ≡ connections → site_of j ≡ site → EndedWorker site connections
  worker_of j b may so_many same = record {
    post = post j;
    post' = post' b;
    tools = tools j;
    tools' = tools' b;
    done = done b;
    works = coe 0 1 (i. WorksAt (same i) (so_many i) (post j) (post' b) (tools j) (tools' b) (done b)) may.0;
  }

  workers_of_jobs : (jobs : List J) (backs : List K) → AllZip MayAnswer jobs backs → All (λ j. (connections_of j ≡ connections) × (site_of j ≡ site)) jobs → (workers : List (EndedWorker site connections)) × AreOf jobs backs workers
  workers_of_jobs [] [] may each = ([], record { began = refl; posted = refl; ends = All-nil (λ (w : EndedWorker site connections). Ends connections w.done); dones = refl })
  workers_of_jobs [] (b ∷ bs) may each = absurd may
  workers_of_jobs (j ∷ js) [] may each = absurd may
  workers_of_jobs (j ∷ js) (b ∷ bs) may each =
      let here = each 0 j (omega arith) in
      let rest = workers_of_jobs js bs may.1 (λ n d within. each (suc n) d (omega (arith, within))) in
      let w = worker_of j b may.0 here.0 here.1 in (
        w ∷ rest.0,
        record {
          began = ap (λ (ds : List Shown). (tools j).desk ∷ ds) rest.1.began;
          posted = ap (λ (ks : List Bool). is_for_sockets (post j) ∷ ks) rest.1.posted;
          ends = All-cons (λ (v : EndedWorker site connections). Ends connections v.done) w rest.0 (subst (λ (n : ℕ). Ends n (done b)) here.0 may.0.1) rest.1.ends;
          dones = ap (λ (ds : List WorkerDone). done b ∷ ds) rest.1.dones;
        },
      )

-- ---- what is counted of them

sum_of : {X Y : Type 0} (f : WorkerDone → ℕ) (x : X → WorkerDone) (y : Y → WorkerDone) (xs : List X) (ys : List Y) → map x xs ≡ map y ys → sum_by (λ a. f (x a)) xs ≡ sum_by (λ a. f (y a)) ys
sum_of f x y xs ys same =
    sym (sum-map (λ a. f (x a)) xs) ∙ (ap sum (sym (map-map f x xs) ∙ (ap (map f) same ∙ map-map f y ys)) ∙ sum-map (λ a. f (y a)) ys)

all_of : {X Y : Type 0} (p : WorkerDone → Bool) (x : X → WorkerDone) (y : Y → WorkerDone) (xs : List X) (ys : List Y) → map x xs ≡ map y ys → list_all (λ a. p (x a)) xs ≡ list_all (λ a. p (y a)) ys
all_of p x y xs ys same = sym (list_all-map p x xs) ∙ (ap (list_all p) same ∙ list_all-map p y ys)

module _ {X : Type 0} (done : X → WorkerDone) (connections : ℕ) where
  whole_one : (d : WorkerDone) → Ends connections d → is_all d.end ≡ true → (faults_in d.end ≡ 0) × (d.served ≡ connections)
  whole_one d (inl p) whole = (ap faults_in p.0, p.1)
  whole_one d (inr p) whole = absurd (let bad : false ≡ true = sym (ap is_all p) ∙ whole in cc)

  failed_one : (d : WorkerDone) → Ends connections d → is_all d.end ≡ false → faults_in d.end ≡ 1
  failed_one d (inl p) failed = absurd (let bad : true ≡ false = sym (ap is_all p.0) ∙ failed in cc)
  failed_one d (inr p) failed = ap faults_in p

  -- all served their connections
  pub all_whole : (xs : List X) → All (λ x. Ends connections (done x)) xs → list_all (λ x. is_all (done x).end) xs ≡ true → (sum_by (λ x. faults_in (done x).end) xs ≡ 0) × (sum_by (λ x. (done x).served) xs ≡ length xs * connections)
  all_whole [] ends whole = (refl, omega arith)
  all_whole (x ∷ xs) ends whole =
      let both = and_parts (is_all (done x).end) (list_all (λ x. is_all (done x).end) xs) whole in
      let one = whole_one (done x) (ends 0 x (omega arith)) both.0 in
      let rest = all_whole xs (λ k d within. ends (suc k) d (omega (arith, within))) both.1 in
      let faults = sum_by-cons (λ x. faults_in (done x).end) x xs in
      let served = sum_by-cons (λ x. (done x).served) x xs in
      let none = one.0 in
      let so_many = one.1 in
      let no_faults = rest.0 in
      let others = rest.1 in
      (omega (arith, faults, none, no_faults), omega (arith, served, so_many, others))

  -- a listener failed
  pub one_failed : (xs : List X) → All (λ x. Ends connections (done x)) xs → list_all (λ x. is_all (done x).end) xs ≡ false → 0 < sum_by (λ x. faults_in (done x).end) xs
  one_failed [] ends failed = absurd (let bad : true ≡ false = failed in cc)
  one_failed (x ∷ xs) ends failed = either_one (is_all (done x).end) refl (one_failed xs rest_ends)
    where
      rest_ends : All (λ x. Ends connections (done x)) xs
      rest_ends k d within = ends (suc k) d (omega (arith, within))

      either_one : (b : Bool) → is_all (done x).end ≡ b → (list_all (λ x. is_all (done x).end) xs ≡ false → 0 < sum_by (λ x. faults_in (done x).end) xs) → 0 < sum_by (λ x. faults_in (done x).end) (x ∷ xs)
      either_one true is more =
          let rest = more (sym (ap (λ (b : Bool). b && list_all (λ x. is_all (done x).end) xs) is) ∙ failed) in
          let all = sum_by-cons (λ x. faults_in (done x).end) x xs in
          omega (arith, rest, all)
      either_one false is more =
          let one = failed_one (done x) (ends 0 x (omega arith)) is in
          let all = sum_by-cons (λ x. faults_in (done x).end) x xs in
          omega (arith, one, all)

-- ---- what came of jobs whose spawner counted just what they gave back

module _ {J K : Type 0} (site : Site) (connections : ℕ) (site_of : J → Site) (connections_of : J → ℕ) (post : J → PostShown) (tools : J → Tools) (post' : K → PostShown) (tools' : K → Tools) (done : K → WorkerDone) where
  pub have_ended : (desks : List Shown) (for_sockets : List Bool) (s s' : SpawnerShown) (jobs : List J) (backs : List K) → AllZip (MayAnswer site connections site_of connections_of post tools post' tools' done) jobs backs
      → All (λ j. (connections_of j ≡ connections) × (site_of j ≡ site)) jobs → map (λ j. (tools j).desk) jobs ≡ desks → map (λ j. is_for_sockets (post j)) jobs ≡ for_sockets
      → s'.faults ≡ counted s.faults (sum_by (λ b. faults_in (done b).end) backs) → s'.served ≡ counted s.served (sum_by (λ b. (done b).served) backs)
      → (workers : List (EndedWorker site connections)) × HaveEnded desks for_sockets s s' workers × (list_all (λ w. is_all w.done.end) workers ≡ list_all (λ b. is_all (done b).end) backs)
  have_ended desks for_sockets s s' jobs backs may each began posted faults served =
      let w = workers_of_jobs site connections site_of connections_of post tools post' tools' done jobs backs may each in
      let dones = w.1.dones in (
        w.0,
        record {
          began = w.1.began ∙ began;
          posted = w.1.posted ∙ posted;
          ends = w.1.ends;
          faults = faults ∙ ap (counted s.faults) (sum_of (λ d. faults_in d.end) done (λ (v : EndedWorker site connections). v.done) backs w.0 (sym dones));
          served = served ∙ ap (counted s.served) (sum_of (λ d. d.served) done (λ (v : EndedWorker site connections). v.done) backs w.0 (sym dones));
        },
        all_of (λ d. is_all d.end) (λ (v : EndedWorker site connections). v.done) done w.0 backs dones,
      )
