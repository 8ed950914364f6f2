mod RefusedLemmas
mod CountDownLemmas
