-- The text of a generated script.
use Rattle.std.specs.Prelude.{ℕ, ◌+◌, ◌%◌, ◌==◌, codes, decimal, if◌then◌else◌, List, [], ◌++◌, flat_map}
use Rattle.std.specs.List.{enumerate_from}
use Rattle.serde_json.specs.Written.{compact_text}
use Rattle.workload_gen.specs.declared.makers.Maker.{Maker}
use Rattle.workload_gen.specs.declared.texts.TheConstants.{HEAD, MIDDLE, TAIL, SEED_NODE, SEED_WAKES, TIE_FROM, TIE_TO}
use Rattle.workload_gen.specs.Makers.{makers}
use Rattle.workload_gen.specs.Trees.{tree}

-- the compact text of its JSON value, and a line feed
unfoldable pub workload_text : ℕ → ℕ → List ℕ
workload_text seed size = compact_text (tree (makers (seed % 65536) size)) ++ codes "\n"

-- ---- the pieces of which the code makes it; only what is private cites them

abbrev pub seed_text : Maker → List ℕ
seed_text m = SEED_NODE.now ++ decimal m.node ++ SEED_WAKES.now ++ decimal m.wakes ++ codes "}"

-- the tie from the seed 4 + j of the maker j to the seed of its friend's node
abbrev pub tie_text : ℕ × Maker → List ℕ
tie_text p = (if p.0 == 0 then [] else codes ",") ++ TIE_FROM.now ++ decimal (4 + p.0) ++ TIE_TO.now ++ decimal p.1.friend ++ codes "}"

abbrev pub pieces : List Maker → List ℕ
pieces ms = HEAD.now ++ flat_map seed_text ms ++ MIDDLE.now ++ flat_map tie_text (enumerate_from 0 ms) ++ TAIL.now
