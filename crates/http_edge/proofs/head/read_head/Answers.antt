use Rattle.std.proofs.Common.{◌≤◌, Err, inr, arith}
use Rattle.spec_http.specs.Heads.{line_feeds}
use Rattle.http_edge.proofs.HeadParts.{judged, method_ascii}
use Rattle.http_edge.proofs.head.read_head.Goals as goal

pub ascii_text-requires : goal.ascii_text-requires
ascii_text-requires c =
    let p = c.in-Some.ensures.some in
    method_ascii p.1 c.args.head.now c.parse_head.new.fields c.in-Some.spans c.of-method.result.now p.2 p.3 c.of-method.ensures

pub returns-in-Err : goal.returns-in-Err
returns-in-Err c =
    let p = c.in-Some.ensures.some in
    let few : line_feeds c.args.head.now ≤ 66 = omega (arith, c.count_feeds.ensures) in (record {
      ok = tt;
      err = inr (inr (
        p.1,
        record { few_lines = few; is_head = p.2 },
        judged p.1 c.args.head.now c.parse_head.new.fields c.in-Some.spans c.of-method.result.now (Err c.in-Err.status) p.3 c.of-method.ensures c.in-Err.ensures,
      ));
    })
