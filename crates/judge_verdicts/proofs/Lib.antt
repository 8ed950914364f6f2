mod WordLemmas
mod ShownLineLemmas
mod ItemListLemmas
mod BreakLemmas
