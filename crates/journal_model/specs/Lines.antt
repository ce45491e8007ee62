-- The spelling of lines: words joined by single spaces.
use Rattle.std.specs.Prelude.{ℕ, ◌<◌, ◌≤◌, ◌^◌, ◌==◌, List, [], ◌∷◌, ◌++◌, length, map, decimal, codes, flat_map}
use Rattle.std.specs.List.{AllByRecursion, join_with_byte, slice_split}
use Rattle.crgc_ids.specs.Actor.{Actor, IsActor}
use Rattle.history_model.specs.declared.events.Event.{Event}
use Rattle.history_model.specs.declared.events.Event.TheVariants.{Seed, Tie, Wake, Take, Spawn, Send, Drop, Retire, Rest, Flush, Publish, Window, Admit, Lose, Repeat, Crash, Remove, Hand, Sweep}
use Rattle.history_model.specs.declared.records.Stop.{Stop}
use Rattle.history_model.specs.Cluster.{Cluster}
use Rattle.journal_model.specs.declared.lines.Line.{Line}
use Rattle.journal_model.specs.declared.lines.Line.TheVariants as lines

-- the words of a line, joined by single spaces
abbrev pub spell : List (List ℕ) → List ℕ
spell words = join_with_byte 32 words

-- an actor is its node, a dot, and its serial
abbrev pub actor_word : Actor → List ℕ
actor_word a = decimal a.node ++ 46 ∷ decimal a.serial

abbrev pub header_words : Cluster → List (List ℕ)
header_words cl = codes "crgc" ∷ decimal cl.version ∷ codes "nodes" ∷ decimal cl.nodes ∷ []

abbrev pub event_words : Event → List (List ℕ)
event_words (Seed n) = codes "seed" ∷ decimal n ∷ []
event_words (Tie a b) = codes "tie" ∷ actor_word a ∷ actor_word b ∷ []
event_words (Wake a) = codes "wake" ∷ actor_word a ∷ []
event_words (Take a) = codes "take" ∷ actor_word a ∷ []
event_words (Spawn a) = codes "spawn" ∷ actor_word a ∷ []
event_words (Send a b refs) = codes "send" ∷ actor_word a ∷ actor_word b ∷ map actor_word refs
event_words (Drop a b) = codes "drop" ∷ actor_word a ∷ actor_word b ∷ []
event_words (Retire a) = codes "retire" ∷ actor_word a ∷ []
event_words (Rest a) = codes "rest" ∷ actor_word a ∷ []
event_words (Flush a) = codes "flush" ∷ actor_word a ∷ []
event_words (Publish n) = codes "publish" ∷ decimal n ∷ []
event_words (Window d s) = codes "window" ∷ decimal d ∷ decimal s ∷ []
event_words (Admit s d k) = codes "admit" ∷ decimal s ∷ decimal d ∷ decimal k ∷ []
event_words (Lose s d k) = codes "lose" ∷ decimal s ∷ decimal d ∷ decimal k ∷ []
event_words (Repeat s d k) = codes "repeat" ∷ decimal s ∷ decimal d ∷ decimal k ∷ []
event_words (Crash n) = codes "crash" ∷ decimal n ∷ []
event_words (Remove m n) = codes "remove" ∷ decimal m ∷ decimal n ∷ []
event_words (Hand m o k) = codes "hand" ∷ decimal m ∷ decimal o ∷ decimal k ∷ []
event_words (Sweep n) = codes "sweep" ∷ decimal n ∷ []

-- the line of a header, and the line of an event
abbrev pub header_line : Cluster → List ℕ
header_line cl = spell (header_words cl)

abbrev pub event_line : Event → List ℕ
event_line e = spell (event_words e)

-- the counts of the cut, one a node in order, then the lost nodes, rising
abbrev pub cut_words : ℕ → List ℕ → List ℕ → List (List ℕ)
cut_words m counts lost = codes "cut" ∷ decimal m ∷ (map decimal counts ++ codes "lost" ∷ map decimal lost)

abbrev pub stop_words : ℕ → Stop → List (List ℕ)
stop_words m s =
    codes "stop" ∷ actor_word s.actor ∷ codes "by" ∷ decimal m ∷ codes "received" ∷ decimal s.received
    ∷ codes "told" ∷ decimal s.told ∷ codes "admitted" ∷ decimal s.admitted ∷ codes "owners" ∷ map actor_word s.owners

abbrev pub end_words : ℕ → ℕ → List (List ℕ)
end_words events stopped =
    codes "end" ∷ codes "events" ∷ decimal events ∷ codes "stopped" ∷ decimal stopped ∷ []

abbrev pub line_words : Line → List (List ℕ)
line_words (lines.Event e) = event_words e
line_words (lines.Cut m counts lost) = cut_words m counts lost
line_words (lines.Stop m s) = stop_words m s
line_words (lines.End events stopped) = end_words events stopped

-- the one spelling of what a line says, without its line feed
abbrev pub spelling : Line → List ℕ
spelling l = spell (line_words l)

-- a node is a number from 0 to 15
abbrev pub IsNodeNumber : ℕ → Type 0
IsNodeNumber n = n < 16

-- any other number is below 2 ^ 32
abbrev pub IsNumber : ℕ → Type 0
IsNumber n = n < 2 ^ 32

abbrev pub AreActors : List Actor → Type 0
AreActors actors = AllByRecursion IsActor actors

-- the numbers of the event are in their ranges, and a message carries at most 16 references
abbrev pub IsWithinRanges : Event → Type 0
IsWithinRanges (Seed n) = IsNodeNumber n
IsWithinRanges (Tie a b) = IsActor a × IsActor b
IsWithinRanges (Wake a) = IsActor a
IsWithinRanges (Take a) = IsActor a
IsWithinRanges (Spawn a) = IsActor a
IsWithinRanges (Send a b refs) = IsActor a × IsActor b × AreActors refs × (length refs ≤ 16)
IsWithinRanges (Drop a b) = IsActor a × IsActor b
IsWithinRanges (Retire a) = IsActor a
IsWithinRanges (Rest a) = IsActor a
IsWithinRanges (Flush a) = IsActor a
IsWithinRanges (Publish n) = IsNodeNumber n
IsWithinRanges (Window d s) = IsNodeNumber d × IsNodeNumber s
IsWithinRanges (Admit s d k) = IsNodeNumber s × IsNodeNumber d × (k < 2 ^ 32)
IsWithinRanges (Lose s d k) = IsNodeNumber s × IsNodeNumber d × (k < 2 ^ 32)
IsWithinRanges (Repeat s d k) = IsNodeNumber s × IsNodeNumber d × (k < 2 ^ 32)
IsWithinRanges (Crash n) = IsNodeNumber n
IsWithinRanges (Remove m n) = IsNodeNumber m × IsNodeNumber n
IsWithinRanges (Hand m o k) = IsNodeNumber m × IsNodeNumber o × (k < 2 ^ 32)
IsWithinRanges (Sweep n) = IsNodeNumber n

abbrev pub AreWithinRanges : List Event → Type 0
AreWithinRanges [] = Unit {0}
AreWithinRanges (e ∷ p) = IsWithinRanges e × AreWithinRanges p

-- what the format asks of a cut: 1 to 16 counts, and at most 16 lost nodes
abbrev pub IsPrintableCut : ℕ → List ℕ → List ℕ → Type 0
IsPrintableCut m counts lost =
    IsNodeNumber m × (1 ≤ length counts) × (length counts ≤ 16) × AllByRecursion IsNumber counts
    × (length lost ≤ 16) × AllByRecursion IsNodeNumber lost

-- what it asks of a stop
abbrev pub IsPrintableStop : ℕ → Stop → Type 0
IsPrintableStop m s =
    IsNodeNumber m × IsActor s.actor × IsNumber s.received × IsNumber s.told × IsNumber s.admitted × AreActors s.owners

-- what it asks of the lists and numbers of a line
abbrev pub IsPrintable : Line → Type 0
IsPrintable (lines.Event e) = IsWithinRanges e
IsPrintable (lines.Cut m counts lost) = IsPrintableCut m counts lost
IsPrintable (lines.Stop m s) = IsPrintableStop m s
IsPrintable (lines.End events stopped) = IsNumber events × IsNumber stopped

-- the lines of a text: the pieces between line feeds, where an empty last piece is no line
abbrev pub without_empty_end : List (List ℕ) → List (List ℕ)
without_empty_end [] = []
without_empty_end ([] ∷ []) = []
without_empty_end ((b ∷ bs) ∷ []) = (b ∷ bs) ∷ []
without_empty_end (x ∷ y ∷ xs) = x ∷ without_empty_end (y ∷ xs)

abbrev pub lines_of : List ℕ → List (List ℕ)
lines_of text = without_empty_end (slice_split (λ b. b == 10) text)

-- the bytes of a line, which ends with a line feed
abbrev pub line_of : List ℕ → List ℕ
line_of bytes = bytes ++ 10 ∷ []

-- the text of some lines
abbrev pub text_of : List (List ℕ) → List ℕ
text_of lines = flat_map line_of lines
