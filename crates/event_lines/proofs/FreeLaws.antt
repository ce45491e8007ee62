-- No word of a line has a space or a line feed in it, nor a line the latter.
use Rattle.std.proofs.Common.{◌≡◌, ◌≢◌, ◌<◌, ◌≤◌, ◌^◌, ℕ, true, nat_lt, List, [], ◌∷◌, ◌++◌, map, codes, refl, arith}
use Rattle.std.proofs.lemmas.Bool.{and_parts, ltb-true}
use Rattle.std.specs.Fmt.{decimal}
use Rattle.std.specs.List.{AllByRecursion, join_with_byte, list_all}
use Rattle.crgc_ids.specs.Actor.{Actor, IsActor}
use Rattle.history_model.specs.declared.events.Event.{Event}
use Rattle.history_model.specs.declared.events.Event.TheVariants.{Seed, Tie, Wake, Take, Spawn, Send, Drop, Retire, Rest, Flush, Publish, Window, Admit, Lose, Repeat, Crash, Remove, Hand, Sweep}
use Rattle.journal_model.specs.declared.lines.Line.{Line}
use Rattle.journal_model.specs.declared.lines.Line.TheVariants as lines
use Rattle.history_model.specs.Cluster.{Cluster}
use Rattle.journal_model.specs.Lines.{actor_word, AreActors, event_words, header_line, header_words, IsNodeNumber, IsNumber, IsPrintable, IsWithinRanges, line_words, spelling}
use Rattle.event_lines.proofs.FieldsLaws.{actor_word-free, decimal-free, free-append}
use Rattle.event_lines.proofs.PiecesLaws.{IsFreeOf}

-- no word has the byte
abbrev pub AreFree : ℕ → List (List ℕ) → Type 0
AreFree c words = AllByRecursion (IsFreeOf c) words

-- a word whose bytes are above the space has neither it nor a byte below it
pub free_bytes : (c : ℕ) → c ≤ 32 → (w : List ℕ) → list_all (λ b. nat_lt 32 b) w ≡ true → IsFreeOf c w
free_bytes c low [] t = tt
free_bytes c low (b ∷ w) t =
    let both = and_parts (nat_lt 32 b) (list_all (λ x. nat_lt 32 x) w) t in
    let above = ltb-true 32 b both.0 in
    ((λ e. omega arith), free_bytes c low w both.1)

words-append : (c : ℕ) (vs ws : List (List ℕ)) → AreFree c vs → AreFree c ws → AreFree c (vs ++ ws)
words-append c [] ws f g = g
words-append c (v ∷ vs) ws f g = (f.0, words-append c vs ws f.1 g)

-- bytes up to the space are in no word of a line
module _ (c : ℕ) (low : c ≤ 32) where
  node-free : (n : ℕ) → n < 16 → IsFreeOf c (decimal n)
  node-free n h = decimal-free c n (omega arith) (omega arith)

  number-free : (n : ℕ) → n < 2 ^ 32 → IsFreeOf c (decimal n)
  number-free n h = decimal-free c n (omega arith) h

  actors-free : (as_ : List Actor) → AreActors as_ → AreFree c (map actor_word as_)
  actors-free [] h = tt
  actors-free (a ∷ as_) h = (actor_word-free c (omega arith) a h.0, actors-free as_ h.1)

  numbers-free : (ns : List ℕ) → AllByRecursion IsNumber ns → AreFree c (map decimal ns)
  numbers-free [] h = tt
  numbers-free (n ∷ ns) h = (number-free n h.0, numbers-free ns h.1)

  nodes-free : (ns : List ℕ) → AllByRecursion IsNodeNumber ns → AreFree c (map decimal ns)
  nodes-free [] h = tt
  nodes-free (n ∷ ns) h = (node-free n h.0, nodes-free ns h.1)

  -- one lemma a shape, for every first word
  module _ (name : List ℕ) (t : list_all (λ b. nat_lt 32 b) name ≡ true) where
    node_word : (n : ℕ) → n < 16 → AreFree c (name ∷ decimal n ∷ [])
    node_word n h = (free_bytes c low name t, (node-free n h, tt))

    actor_words : (a : Actor) (refs : List Actor) → IsActor a → AreActors refs → AreFree c (name ∷ actor_word a ∷ map actor_word refs)
    actor_words a refs h names = (free_bytes c low name t, (actor_word-free c (omega arith) a h, actors-free refs names))

    node_words : (m n : ℕ) → m < 16 → n < 16 → AreFree c (name ∷ decimal m ∷ decimal n ∷ [])
    node_words m n g h = (free_bytes c low name t, (node-free m g, (node-free n h, tt)))

    link_words : (m n k : ℕ) → m < 16 → n < 16 → k < 2 ^ 32 → AreFree c (name ∷ decimal m ∷ decimal n ∷ decimal k ∷ [])
    link_words m n k g h l = (free_bytes c low name t, (node-free m g, (node-free n h, (number-free k l, tt))))

  event_words-free : (e : Event) → IsWithinRanges e → AreFree c (event_words e)
  event_words-free (Seed n) h = node_word (codes "seed") refl n h
  event_words-free (Tie a b) h = actor_words (codes "tie") refl a (b ∷ []) h.0 (h.1, tt)
  event_words-free (Wake a) h = actor_words (codes "wake") refl a [] h tt
  event_words-free (Take a) h = actor_words (codes "take") refl a [] h tt
  event_words-free (Spawn a) h = actor_words (codes "spawn") refl a [] h tt
  event_words-free (Send a b refs) h = actor_words (codes "send") refl a (b ∷ refs) h.0 (h.1, h.2)
  event_words-free (Drop a b) h = actor_words (codes "drop") refl a (b ∷ []) h.0 (h.1, tt)
  event_words-free (Retire a) h = actor_words (codes "retire") refl a [] h tt
  event_words-free (Rest a) h = actor_words (codes "rest") refl a [] h tt
  event_words-free (Flush a) h = actor_words (codes "flush") refl a [] h tt
  event_words-free (Publish n) h = node_word (codes "publish") refl n h
  event_words-free (Window d s) h = node_words (codes "window") refl d s h.0 h.1
  event_words-free (Admit s d k) h = link_words (codes "admit") refl s d k h.0 h.1 h.2
  event_words-free (Lose s d k) h = link_words (codes "lose") refl s d k h.0 h.1 h.2
  event_words-free (Repeat s d k) h = link_words (codes "repeat") refl s d k h.0 h.1 h.2
  event_words-free (Crash n) h = node_word (codes "crash") refl n h
  event_words-free (Remove m n) h = node_words (codes "remove") refl m n h.0 h.1
  event_words-free (Hand m o k) h = link_words (codes "hand") refl m o k h.0 h.1 h.2
  event_words-free (Sweep n) h = node_word (codes "sweep") refl n h

  pub line_words-free : (l : Line) → IsPrintable l → AreFree c (line_words l)
  line_words-free (lines.Event e) h = event_words-free e h
  line_words-free (lines.Cut m counts lost) h = (
    free_bytes c low (codes "cut") refl,
    (node-free m h.0, words-append c (map decimal counts) (codes "lost" ∷ map decimal lost) (numbers-free counts h.3) (free_bytes c low (codes "lost") refl, nodes-free lost h.5)),
  )
  line_words-free (lines.Stop m s) h = (
    free_bytes c low (codes "stop") refl,
    (
      actor_word-free c (omega arith) s.actor h.1,
      (
        free_bytes c low (codes "by") refl,
        (
          node-free m h.0,
          (
            free_bytes c low (codes "received") refl,
            (
              number-free s.received h.2,
              (
                free_bytes c low (codes "told") refl,
                (
                  number-free s.told h.3,
                  (free_bytes c low (codes "admitted") refl, (number-free s.admitted h.4, (free_bytes c low (codes "owners") refl, actors-free s.owners h.5))),
                ),
              ),
            ),
          ),
        ),
      ),
    ),
  )
  line_words-free (lines.End events stopped) h =
      (free_bytes c low (codes "end") refl, (free_bytes c low (codes "events") refl, (number-free events h.0, (free_bytes c low (codes "stopped") refl, (number-free stopped h.1, tt)))))

  -- nor in one of a header
  pub header_words-free : (cl : Cluster) → cl.nodes ≤ 16 → cl.version ≤ 2 → AreFree c (header_words cl)
  header_words-free cl nodes version = (
    free_bytes c low (codes "crgc") refl,
    (decimal-free c cl.version (omega arith) (omega arith), (free_bytes c low (codes "nodes") refl, (decimal-free c cl.nodes (omega arith) (omega arith), tt))),
  )

-- words joined by another byte
join-free : (c separator : ℕ) → separator ≢ c → (words : List (List ℕ)) → AreFree c words → IsFreeOf c (join_with_byte separator words)
join-free c separator other [] free = tt
join-free c separator other (w ∷ []) free = free.0
join-free c separator other (w ∷ v ∷ ws) free =
    free-append c w (separator ∷ join_with_byte separator (v ∷ ws)) free.0 (other, join-free c separator other (v ∷ ws) free.1)

-- no line has a line feed in it, and no header has
pub spelling-free : (l : Line) → IsPrintable l → IsFreeOf 10 (spelling l)
spelling-free l h = join-free 10 32 (λ e. omega arith) (line_words l) (line_words-free 10 (omega arith) l h)

pub header_line-free : (cl : Cluster) → cl.nodes ≤ 16 → cl.version ≤ 2 → IsFreeOf 10 (header_line cl)
header_line-free cl nodes version = join-free 10 32 (λ e. omega arith) (header_words cl) (header_words-free 10 (omega arith) cl nodes version)
