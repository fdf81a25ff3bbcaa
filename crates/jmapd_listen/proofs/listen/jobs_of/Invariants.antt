use Rattle.std.proofs.Common.{◌≡◌, ◌≤◌, length, map}
use Rattle.std.specs.Arc.{arc_value}
use Rattle.std.specs.Prelude.{All, vec_capacity}
use Rattle.jmapd_listen.proofs.listen.jobs_of.Given as goal

abbrev pub invariant-loop-post : goal.invariant-loop-post
invariant-loop-post g l = record {
  posts : map (λ job. job.post) l.jobs.items ≡ map (λ p. p.0) l.yielded;
  desks : map (λ job. job.desk) l.jobs.items ≡ map (λ p. p.1) l.yielded;
  count : length l.jobs.items ≡ length l.yielded;
  room : length l.fn.posts.items ≤ vec_capacity l.jobs;
  all : All (λ job. (job.connections ≡ l.connections) × (arc_value job.site ≡ l.fn.site)) l.jobs.items;
}
