-- A run of a command is a run of the program.
use Rattle.std.proofs.Common.{◌≡◌, List, Option, Some, None, ℕ, refl, sym, ap, ◌∙◌, subst}
use Rattle.std.specs.Prelude.{option_map}
use mathlib.Core.Logic.{inl, inr}
use Rattle.command_line.specs.Commands.{Command, Listen, batch, command_of, listen, stdio, workload}
use Rattle.io_edge.specs.Outside.{OpenerShown}
use Rattle.jmapd_listen.specs.Asked.{listen_in}
use Rattle.jmapd_listen.specs.Hosts.{HostsShown}
use Rattle.jmapd_listen.specs.Listens.{Listens, ListensFrom, SpawnerShown}
use Rattle.jmapd_listen.specs.Program.{RunsProgram, WorksFrom}
use Rattle.jmapd_run.specs.Headline.{Surroundings}
use Rattle.jmapd_run.specs.Runs.{Runs, RunsFrom, streamed}
use Rattle.jmapd_run.specs.Starts.{IsStart, Start, batch_for, misconfigured, not_opened, stdio_of, usage, workers_for, workload_by}
use Rattle.jmapd_run.specs.declared.status.Status.{Status}
use Rattle.jmapd_run.specs.declared.status.Status.TheVariants.{Config, Cut, Done, NoMemory, OpenFault, ReadFault, Refused, Usage, WriteFault}

-- a command that asks nothing of workers is one that `run` knows
pub streamed_all : (c : Option Command) → listen_in c ≡ None → streamed c ≡ c
streamed_all None e = refl
streamed_all (Some (batch config user)) e = refl
streamed_all (Some (stdio config)) e = refl
streamed_all (Some (workload number size)) e = refl
streamed_all (Some (listen l)) e = cc

-- one that does is `listen`
pub listens : (c : Option Command) (l : Listen) → listen_in c ≡ Some l → c ≡ Some (listen l)
listens None l e = cc
listens (Some (batch config user)) l e = cc
listens (Some (stdio config)) l e = cc
listens (Some (workload number size)) l e = cc
listens (Some (listen k)) l e = ap (option_map listen) e

module _ (x x' : Surroundings) (h h' : HostsShown) (s s' : SpawnerShown) where
  from_listen : (start : Start) (e : Status) → ListensFrom h h' s s' start e → x' ≡ x → WorksFrom x x' h h' s s' start e
  from_listen not_opened OpenFault f same = (same, f.0, f.1)
  from_listen not_opened Done f same = absurd f
  from_listen not_opened Refused f same = absurd f
  from_listen not_opened Usage f same = absurd f
  from_listen not_opened (Config field index) f same = absurd f
  from_listen not_opened ReadFault f same = absurd f
  from_listen not_opened WriteFault f same = absurd f
  from_listen not_opened NoMemory f same = absurd f
  from_listen not_opened Cut f same = absurd f
  from_listen (misconfigured field index) (Config g i) f same = ((f.0, f.1, same), f.2, f.3)
  from_listen (misconfigured field index) OpenFault f same = absurd f
  from_listen (misconfigured field index) Done f same = absurd f
  from_listen (misconfigured field index) Refused f same = absurd f
  from_listen (misconfigured field index) Usage f same = absurd f
  from_listen (misconfigured field index) ReadFault f same = absurd f
  from_listen (misconfigured field index) WriteFault f same = absurd f
  from_listen (misconfigured field index) NoMemory f same = absurd f
  from_listen (misconfigured field index) Cut f same = absurd f
  from_listen (workers_for l site) e f same = (f, same)
  from_listen usage e f same = absurd f
  from_listen (batch_for site user) e f same = absurd f
  from_listen (stdio_of site) e f same = absurd f
  from_listen (workload_by number size) e f same = absurd f

  from_run : (start : Start) (e : Status) → RunsFrom x x' start e → h' ≡ h → s' ≡ s → WorksFrom x x' h h' s s' start e
  from_run usage e r host spawner = (r, host, spawner)
  from_run not_opened e r host spawner = (r, host, spawner)
  from_run (misconfigured field index) e r host spawner = (r, host, spawner)
  from_run (batch_for site user) e r host spawner = (r, host, spawner)
  from_run (stdio_of site) e r host spawner = (r, host, spawner)
  from_run (workload_by number size) e r host spawner = (r, host, spawner)
  from_run (workers_for l site) e r host spawner = absurd r

  module _ (o o' : OpenerShown) (words : List (List ℕ)) (status : Status) where
    pub of_listen : (l : Listen) → command_of words ≡ Some (listen l) → x' ≡ x → Listens h h' s s' o o' l status → RunsProgram x x' h h' s s' o o' words status
    of_listen l is same (inr e) = inr (e.0, same, e.1, e.2)
    of_listen l is same (inl r) = inl (r.0, subst (λ (c : Option Command). IsStart o o' c r.0) (sym is) r.1, from_listen r.0 status r.2 same)

    pub of_run : (c : Option Command) → command_of words ≡ c → streamed c ≡ c → h' ≡ h → s' ≡ s → Runs x x' o o' (streamed c) status → RunsProgram x x' h h' s s' o o' words status
    of_run c is all host spawner (inr e) = inr (e.0, e.1, host, spawner)
    of_run c is all host spawner (inl r) = inl (r.0, subst (λ (k : Option Command). IsStart o o' k r.0) (all ∙ sym is) r.1, from_run r.0 status r.2 host spawner)
