use Rattle.std.proofs.Common.{◌≡◌, ◌++◌, [], ◌∷◌, List, length, map, refl, sym, ap, ◌∙◌, subst, arith, rules, length-append}
use Rattle.std.proofs.lemmas.Iterator.{YieldsList-from_zip}
use Rattle.std.proofs.lemmas.Iterator.Adapters.{YieldsList-from_vec}
use Rattle.std.proofs.lemmas.Iterator.Consumers.{YieldsList-turn, YieldsList-end}
use Rattle.std.proofs.lemmas.List.{map-append}
use Rattle.std.proofs.lemmas.List.Elements.{All-push}
use Rattle.std.proofs.lemmas.Slice.Zip.{firsts-zip, seconds-zip}
use Rattle.std.specs.Arc.{arc_value}
use Rattle.std.specs.Prelude.{All}
use Rattle.jmapd_listen.proofs.JobLemmas.{unused_of_same}
use Rattle.jmapd_listen.proofs.ZipLemmas.{firsts_again, seconds_again, zip_length, zip_second}
use Rattle.jmapd_listen.specs.Listens.{IsUnused}
use Rattle.jmapd_listen.specs.declared.job.WorkerJob.{WorkerJob}
use Rattle.listen_workers.specs.declared.post.Post.{Post}
use Rattle.jmapd_listen.proofs.listen.jobs_of.Goals as goal

pub invariant_of-push_reserved : goal.invariant_of-push_reserved
invariant_of-push_reserved g c =
    let ls = c.args.posts.items in
    let ds = c.args.desks.items in
    let n = length c.loop-post.yielded in
    let all = YieldsList-from_zip {s = c.into_iter-post-iterator.result} (YieldsList-from_vec {s = c.into_iter-post-iterator.result.a} ls (search rules) (search rules)) (YieldsList-from_vec {s = c.into_iter-post-iterator.result.b} ds (search rules) (search rules)) in
    let at = YieldsList-turn all c.loop-post.yielded c.loop-post.post-iterator c.loop-post.yielded_by c.next.result c.next.new.self (c.in-Some.post, c.in-Some.desk) c.in-Some.is c.next.ensures.steps in
    let same = c.requires.workers in
    let few = at.0 in
    let long = zip_length ls ds same in
    let desk = zip_second ls ds n (c.in-Some.post, c.in-Some.desk) c.in-Some.desk same (omega (arith, few, long)) at.1 in
    let site : arc_value c.in_ok-try_clone.field-0 ≡ c.args.site = search rules in
    let unused = c.requires.unused n c.in-Some.desk (omega (arith, few, long, same)) in
    record { unused = unused_of_same (g.D.Desk.shown c.in-Some.desk) site (subst (λ d. IsUnused c.args.site (g.D.Desk.shown d)) (sym desk) unused); within = c.requires.connections }

pub loop-post-preserved : goal.loop-post-preserved
loop-post-preserved g c =
    let i = c.loop-post.invariant in
    let count = i.count in
    let items = c.push_reserved.ensures.items in
    let pushed = ap length items in
    let longer = length-append c.loop-post.yielded ((c.in-Some.post, c.in-Some.desk) ∷ []) in
    let Q : Type 0 = Post g.row.L.Denot g.row.A.Denot in
    let Job : Type 0 = WorkerJob g.row.L.Denot g.row.A.Denot g.row.C.Denot g.row.D.Denot g.D.Desk in
    let post_of : Job → Q = λ job. job.post in
    let desk_of : Job → g.row.D.Denot = λ job. job.desk in
    let P : Job → Type 0 = λ job. (job.connections ≡ c.args.connections) × (arc_value job.site ≡ c.args.site) in
    let site : arc_value c.in_ok-try_clone.field-0 ≡ c.args.site = search rules in
    record {
      posts =
          ap (map post_of) items ∙ (map-append post_of c.loop-post.jobs.items _ ∙ (ap (λ (qs : List Q). qs ++ c.in-Some.post ∷ []) i.posts
          ∙ sym (map-append (λ (p : Q × g.row.D.Denot). p.0) c.loop-post.yielded ((c.in-Some.post, c.in-Some.desk) ∷ []))));
      desks =
          ap (map desk_of) items ∙ (map-append desk_of c.loop-post.jobs.items _ ∙ (ap (λ (ds : List g.row.D.Denot). ds ++ c.in-Some.desk ∷ []) i.desks
          ∙ sym (map-append (λ (p : Q × g.row.D.Denot). p.1) c.loop-post.yielded ((c.in-Some.post, c.in-Some.desk) ∷ []))));
      count = search rules;
      room = search rules;
      all = subst (All P) (sym items) (All-push P c.loop-post.jobs.items _ i.all (refl, site));
    }

pub returns-clause-desks : goal.returns-clause-desks
returns-clause-desks g c =
    let ls = c.args.posts.items in
    let ds = c.args.desks.items in
    let all = YieldsList-from_zip {s = c.into_iter-post-iterator.result} (YieldsList-from_vec {s = c.into_iter-post-iterator.result.a} ls (search rules) (search rules)) (YieldsList-from_vec {s = c.into_iter-post-iterator.result.b} ds (search rules) (search rules)) in
    let end = YieldsList-end all c.loop-post.yielded c.loop-post.post-iterator c.loop-post.yielded_by c.next.result c.next.new.self c.in-None.is c.next.ensures.steps in
    let second = ap (map (λ (p : Post g.row.L.Denot g.row.A.Denot × g.row.D.Denot). p.1)) end.0 in
    c.loop-post.invariant.desks ∙ (seconds_again c.loop-post.yielded ∙ (second ∙ seconds-zip ls ds c.requires.workers))

pub returns-clause-posts : goal.returns-clause-posts
returns-clause-posts g c =
    let ls = c.args.posts.items in
    let ds = c.args.desks.items in
    let all = YieldsList-from_zip {s = c.into_iter-post-iterator.result} (YieldsList-from_vec {s = c.into_iter-post-iterator.result.a} ls (search rules) (search rules)) (YieldsList-from_vec {s = c.into_iter-post-iterator.result.b} ds (search rules) (search rules)) in
    let end = YieldsList-end all c.loop-post.yielded c.loop-post.post-iterator c.loop-post.yielded_by c.next.result c.next.new.self c.in-None.is c.next.ensures.steps in
    let first = ap (map (λ (p : Post g.row.L.Denot g.row.A.Denot × g.row.D.Denot). p.0)) end.0 in
    c.loop-post.invariant.posts ∙ (firsts_again c.loop-post.yielded ∙ (first ∙ firsts-zip ls ds c.requires.workers))
