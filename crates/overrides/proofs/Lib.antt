mod OverrideLemmas
mod PatchLemmas
mod MemberLemmas
mod TablePartLemmas
mod OccurrenceLemmas
