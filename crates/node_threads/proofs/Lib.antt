mod PumpLemmas
mod HandLemmas
mod RoundLemmas
