-- The faults of layers: how a part's answer goes up, the cause at the bottom, and the words.
use Rattle.std.specs.Prelude.{ℕ, List, ◌++◌, Some, Ok, Err, codes, decimal, Option, Result}
use Rattle.machine.specs.Causes.{cause_text}
use Rattle.machine.specs.declared.faults.Cause.{Cause}
use Rattle.std.specs.Fmt.{option_append}
use Rattle.layers.specs.declared.faults.KeymapFault.{KeymapFault}
use Rattle.layers.specs.declared.faults.KeymapFault.TheVariants as keymap
use Rattle.layers.specs.declared.faults.LayerFault.{LayerFault}
use Rattle.layers.specs.declared.faults.PairFault.{PairFault}
use Rattle.layers.specs.declared.faults.PairFault.TheVariants as pair

-- the answer of the first or lower part as its layer passes it up: a fault goes whole onto its side
abbrev pub in_first : {T F G : Type 0} → Result T F → Result T (PairFault F G)
in_first (Ok x) = Ok x
in_first (Err f) = Err (pair.First f)

-- the same of the second or upper part
abbrev pub in_second : {T F G : Type 0} → Result T G → Result T (PairFault F G)
in_second (Ok x) = Ok x
in_second (Err g) = Err (pair.Second g)

-- the same of the part under a key map
abbrev pub in_part : {T F : Type 0} → Result T F → Result T (KeymapFault F)
in_part (Ok x) = Ok x
in_part (Err f) = Err (keymap.Part f)

-- the cause at the bottom of a fault of two parts, given that of each part's faults
abbrev pub pair_root : {F G : Type 0} → (F → Cause) → (G → Cause) → PairFault F G → Cause
pair_root first second (pair.Own own) = own.cause
pair_root first second (pair.First f) = first f
pair_root first second (pair.Second g) = second g

-- the cause at the bottom of a key map's fault
abbrev pub keymap_root : {F : Type 0} → (F → Cause) → KeymapFault F → Cause
keymap_root part (keymap.Own own) = own.cause
keymap_root part (keymap.Part f) = part f

-- a layer's own fault in words
abbrev pub layer_text : LayerFault → List ℕ
layer_text f =
    codes "state " ++ (decimal f.state ++ (codes " input " ++ (decimal f.input ++ (codes ": " ++ cause_text f.cause))))

-- a carried fault: its side, and then the part's words
abbrev pub pair_text : {F G : Type 0} → (F → Option (List ℕ)) → (G → Option (List ℕ)) → PairFault F G → Option (List ℕ)
pair_text first second (pair.Own own) = Some (layer_text own)
pair_text first second (pair.First f) = option_append (Some (codes "first: ")) (first f)
pair_text first second (pair.Second g) = option_append (Some (codes "second: ")) (second g)

-- the same of a key map's fault
abbrev pub keymap_text : {F : Type 0} → (F → Option (List ℕ)) → KeymapFault F → Option (List ℕ)
keymap_text part (keymap.Own own) = Some (layer_text own)
keymap_text part (keymap.Part f) = option_append (Some (codes "part: ")) (part f)
