-- A run that doesn't begin.
use Rattle.std.proofs.Common.{ℕ, List, Option, Some, None, Result, Ok, Err, ◌≢◌, inl, inr, refl, sym, ap, subst}
use Rattle.command_line.specs.Commands.{Command, batch, stdio}
use Rattle.spec_site.specs.Configuration.{Site}
use Rattle.io_edge.specs.Outside.{OpenerShown}
use Rattle.jmapd_run.specs.declared.status.Status.{Status}
use Rattle.jmapd_run.specs.declared.status.Status.TheVariants.{Config, Cut, Done, NoMemory, OpenFault, ReadFault, Refused, Usage, WriteFault}
use Rattle.jmapd_run.specs.Headline.{Surroundings}
use Rattle.jmapd_run.specs.Runs.{Runs}
use Rattle.jmapd_run.specs.Shown.{BatchHow, LoadHow, SiteHow, StartHow}
use Rattle.jmapd_run.specs.declared.start.Start.{Start}
use Rattle.jmapd_run.specs.Starts.{IsSite, IsStart, misconfigured, not_opened, usage}

pub not_started : (x : Surroundings) (o o' : OpenerShown) (asked : Option Command) (e : Status) → StartHow o o' asked (Err e) → Runs x x o o' asked e
not_started x o o' asked Usage h = inl (usage, h, refl)
not_started x o o' asked OpenFault h = inl (not_opened, h, refl)
not_started x o o' asked (Config field index) h = inl (misconfigured field index, h, (refl, refl, refl))
not_started x o o' asked NoMemory h = inr (refl, refl)
not_started x o o' asked Done h = cc
not_started x o o' asked Refused h = cc
not_started x o o' asked ReadFault h = cc
not_started x o o' asked WriteFault h = cc
not_started x o o' asked Cut h = cc

pub site_is : (o o' : OpenerShown) (config : Option (List ℕ)) (site : Site) → SiteHow o o' config (Ok site) → IsSite o o' config site
site_is o o' None site h = h
site_is o o' (Some name) site h = h

-- what comes of the configuration that a connection names, and of that of a request

pub stdio_refused : (o o' : OpenerShown) (name : List ℕ) (e : Status) → LoadHow o o' name (Err e) → StartHow o o' (Some (stdio name)) (Err e)
stdio_refused o o' name OpenFault h = (stdio name, name, refl, refl, h)
stdio_refused o o' name (Config field index) h = (stdio name, name, refl, refl, h)
stdio_refused o o' name NoMemory h = h
stdio_refused o o' name Usage h = cc
stdio_refused o o' name Done h = cc
stdio_refused o o' name Refused h = cc
stdio_refused o o' name ReadFault h = cc
stdio_refused o o' name WriteFault h = cc
stdio_refused o o' name Cut h = cc

site_refused : (o o' : OpenerShown) (config who : Option (List ℕ)) (e : Status) → SiteHow o o' config (Err e) → e ≢ Usage → StartHow o o' (Some (batch config who)) (Err e)
site_refused o o' None who OpenFault h other = cc
site_refused o o' None who (Config field index) h other = cc
site_refused o o' (Some name) who OpenFault h other = (batch (Some name) who, name, refl, refl, h)
site_refused o o' (Some name) who (Config field index) h other = (batch (Some name) who, name, refl, refl, h)
site_refused o o' None who NoMemory h other = h
site_refused o o' (Some name) who NoMemory h other = h
site_refused o o' config who Usage h other = absurd (other refl)
site_refused o o' None who Done h other = cc
site_refused o o' (Some name) who Done h other = cc
site_refused o o' None who Refused h other = cc
site_refused o o' (Some name) who Refused h other = cc
site_refused o o' None who ReadFault h other = cc
site_refused o o' (Some name) who ReadFault h other = cc
site_refused o o' None who WriteFault h other = cc
site_refused o o' (Some name) who WriteFault h other = cc
site_refused o o' None who Cut h other = cc
site_refused o o' (Some name) who Cut h other = cc

pub batch_started : (o o' : OpenerShown) (config who : Option (List ℕ)) (r : Result Start Status) → BatchHow o o' config who r → StartHow o o' (Some (batch config who)) r
batch_started o o' config who (Ok start) h = subst (IsStart o o' (Some (batch config who))) (sym h.2) (config, who, refl, h.3, h.4)
batch_started o o' config who (Err Usage) h = inr (config, h.0, h.1, ap (λ w. Some (batch config w)) h.2, h.3, h.4)
batch_started o o' config who (Err OpenFault) h = site_refused o o' config who OpenFault h (λ e. cc)
batch_started o o' config who (Err (Config field index)) h = site_refused o o' config who (Config field index) h (λ e. cc)
batch_started o o' config who (Err NoMemory) h = site_refused o o' config who NoMemory h (λ e. cc)
batch_started o o' config who (Err Done) h = site_refused o o' config who Done h (λ e. cc)
batch_started o o' config who (Err Refused) h = site_refused o o' config who Refused h (λ e. cc)
batch_started o o' config who (Err ReadFault) h = site_refused o o' config who ReadFault h (λ e. cc)
batch_started o o' config who (Err WriteFault) h = site_refused o o' config who WriteFault h (λ e. cc)
batch_started o o' config who (Err Cut) h = site_refused o o' config who Cut h (λ e. cc)
