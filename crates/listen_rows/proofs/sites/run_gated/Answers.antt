use denote.Exit.{no}
use denote.Param.Send.{arg_send, param_send}
use Rattle.listen_rows.proofs.Crossing.{desk_sent}
use Rattle.listen_rows.proofs.sites.run_gated.Goals as goal

pub serve_site-requires-send-D : goal.serve_site-requires-send-D
serve_site-requires-send-D g c κs within = param_send _ _ (arg_send _ no _ (desk_sent _ c.type_bounds.send-R))
