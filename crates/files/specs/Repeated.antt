-- Marks by which the search for a repeated edge passes over edges at whose place no earlier edge has left a mark, and the keys by which the others are compared.
use Rattle.std.specs.Prelude.{◌≡◌, Bool, true, false, List, ℕ, ◌+◌, ◌*◌, ◌%◌, ◌≤◌, ◌<◌, length, get_or}
use Rattle.layout.specs.declared.EdgeRecord.{EdgeRecord}
use Rattle.records.specs.Columns.{no_record}

-- the place of an edge among 4096 marks: pairs of ends below 64 have a place each at delay 0, and a delay moves it on, so that few edges share one
abbrev pub edge_place : EdgeRecord → ℕ
edge_place e = (e.source * 64 + e.sink + e.delay * 1657) % 4096

-- a number whose digits to the base 256 are an edge's source, sink and delay
pub record KeyOf (e : EdgeRecord) (key : ℕ) : Type 0 where
  pub is : key ≡ (e.source * 256 + e.sink) * 256 + e.delay
  pub sink : e.sink < 256
  pub delay : e.delay < 256

-- The keys of the first j edges are listed.
pub record Keyed (edges : List EdgeRecord) (j : ℕ) (keys : List ℕ) : Type 0 where
  pub few : j ≤ length keys
  pub each : (i : ℕ) → i < j → KeyOf (get_or edges i no_record) (get_or keys i 0)

-- The places of the first j edges are marked.
pub record SeenBefore (edges : List EdgeRecord) (j : ℕ) (seen : List Bool) : Type 0 where
  pub room : length seen ≡ 4096
  pub each : (i : ℕ) → i < j → get_or seen (edge_place (get_or edges i no_record)) false ≡ true
