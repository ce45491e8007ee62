-- Lines that are read, and the first faults of others, computed.
use Rattle.std.specs.Prelude.{ℕ, ◌≡◌, List, [], ◌∷◌, ◌++◌, Ok, Err, codes, refl}
use Rattle.std.specs.Fmt.{digits}
use Rattle.history_model.specs.declared.events.Event.TheVariants.{Seed, Send}
use Rattle.history_model.specs.Rows.{actor}
use Rattle.journal_model.specs.declared.lines.Line.TheVariants as lines
use Rattle.journal_model.specs.declared.lines.LineFault.TheVariants.{Word, Field, Extra}
use Rattle.journal_model.specs.Fields.{pieces, number_of, actor_of}
use Rattle.journal_model.specs.Reading.{read_line, any_line, actor_line, node_line, pair_line, link_line}

abbrev sixteen : List ℕ
sixteen = codes "send 0.0 0.0 0.0 0.0 0.0 0.0 0.0 0.0 0.0 0.0 0.0 0.0 0.0 0.0 0.0 0.0 0.0 0.0"

-- no form has the first word
no_words : read_line [] ≡ Err Word
unfolding pieces any_line actor_line node_line pair_line link_line
no_words = refl

capital : read_line (codes "Seed 0") ≡ Err Word
unfolding pieces any_line actor_line node_line pair_line link_line
capital = refl

-- a field is missing, or is not spelled so
two_spaces : read_line (codes "seed  0") ≡ Err Field
unfolding pieces number_of actor_of any_line actor_line node_line pair_line link_line digits
two_spaces = refl

leading_zero : read_line (codes "seed 00") ≡ Err Field
unfolding pieces number_of actor_of any_line actor_line node_line pair_line link_line digits
leading_zero = refl

byte_ff : read_line (codes "seed " ++ 255 ∷ []) ≡ Err Field
unfolding pieces number_of actor_of any_line actor_line node_line pair_line link_line digits
byte_ff = refl

carriage_return : read_line (codes "seed 0" ++ 13 ∷ []) ≡ Err Field
unfolding pieces number_of actor_of any_line actor_line node_line pair_line link_line digits
carriage_return = refl

serial_262144 : read_line (codes "wake 0.262144") ≡ Err Field
unfolding pieces number_of actor_of any_line actor_line node_line pair_line link_line digits
serial_262144 = refl

no_count : read_line (codes "cut 0 lost") ≡ Err Field
unfolding pieces number_of actor_of any_line actor_line node_line pair_line link_line digits
no_count = refl

seventeen_counts : read_line (codes "cut 0 0 1 2 3 4 5 6 7 8 9 10 11 12 13 14 15 16 lost") ≡ Err Field
unfolding pieces number_of actor_of any_line actor_line node_line pair_line link_line digits
seventeen_counts = refl

lost_node_16 : read_line (codes "cut 0 1 lost 16") ≡ Err Field
unfolding pieces number_of actor_of any_line actor_line node_line pair_line link_line digits
lost_node_16 = refl

-- words follow after all that the form takes
space_at_end : read_line (codes "seed 0 ") ≡ Err Extra
unfolding pieces number_of actor_of any_line actor_line node_line pair_line link_line digits
space_at_end = refl

seventeen_references : read_line (sixteen ++ codes " x") ≡ Err Extra
unfolding pieces number_of actor_of any_line actor_line node_line pair_line link_line digits
seventeen_references = refl

-- lines that say something
seed : read_line (codes "seed 15") ≡ Ok (lines.Event (Seed 15))
unfolding pieces number_of actor_of any_line actor_line node_line pair_line link_line digits
seed = refl

send : read_line (codes "send 0.0 1.7 0.262143") ≡ Ok (lines.Event (Send (actor 0 0) (actor 1 7) (actor 0 262143 ∷ [])))
unfolding pieces number_of actor_of any_line actor_line node_line pair_line link_line digits
send = refl

cut : read_line (codes "cut 1 0 4294967295 lost 0") ≡ Ok (lines.Cut 1 (0 ∷ 4294967295 ∷ []) (0 ∷ []))
unfolding pieces number_of actor_of any_line actor_line node_line pair_line link_line digits
cut = refl

stop : read_line (codes "stop 0.1 by 0 received 2 told 1 admitted 1 owners 0.1 1.1")
    ≡ Ok (lines.Stop 0 (record { actor = actor 0 1; received = 2; told = 1; admitted = 1; owners = actor 0 1 ∷ actor 1 1 ∷ [] }))
unfolding pieces number_of actor_of any_line actor_line node_line pair_line link_line digits
stop = refl

end : read_line (codes "end events 57 stopped 2") ≡ Ok (lines.End 57 2)
unfolding pieces number_of actor_of any_line actor_line node_line pair_line link_line digits
end = refl
