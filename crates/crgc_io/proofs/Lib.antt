mod ReadingLemmas
mod TakenLemmas
