use Rattle.crgc_bytes.proofs.NumberLaws.{big_bytes-big_number}
use Rattle.crgc_bytes.proofs.laws.bytes_follow_from_their_number.Goals as goal

pub returns : goal.returns
returns c = big_bytes-big_number
