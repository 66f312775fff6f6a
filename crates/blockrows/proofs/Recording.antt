-- The blocks of the first cutting put into their list, one by one: what is left to cut gives the other rows. Assumes
-- nothing.
use Rattle.std.proofs.Common.{ℕ, ◌+◌, ◌≤◌, List, [], ◌∷◌, ◌++◌, ◌≡◌, ◌∙◌, refl, sym, ap, map, length, take, drop, arith}
use Rattle.std.proofs.lemmas.List.{append_assoc, append-nil, length-map, length-take-le, length-drop, length_push}
use Rattle.rules.specs.Blocks.{Block, block_end, cut_in_order}
use Rattle.entries.specs.declared.list.Entry.{Entry as Struct}
use Rattle.entries.specs.Lent.{meant, entry_at}
use Rattle.method.specs.declared.BlockRow.{BlockRow}
use Rattle.method.specs.Hours.{desk_end}
use Rattle.blocksteps.specs.Listed.{Listed, Extends}
use Rattle.solve.proofs.Cutting.{listed_rest}
use Rattle.blockrows.specs.Rows.{row_of}

row_same : (x y z u v w : ℕ) → x ≡ u → y ≡ v → z ≡ w
    → ◌≡◌ {A = BlockRow} (record { count = x; from = y; end = z }) (record { count = u; from = v; end = w })
row_same x y z u v w p q r = rw (p, q, r)

-- The rows of a set.
abbrev pub rows_of : List Struct → List BlockRow
rows_of es = map row_of (cut_in_order desk_end (map meant es))

-- The blocks in front of the rest are in the list.
pub record Recording (es rest : List Struct) (rows : List BlockRow) : Type 0 where
  pub listed : Listed rest
  pub few : length rows + length rest ≤ length es
  pub are : rows ++ rows_of rest ≡ rows_of es

pub recording_none : (es : List Struct) (rows : List BlockRow) → Listed es → rows ≡ [] → Recording es es rows
recording_none es rows h none = rw none (record { listed = h; few = omega arith; are = refl })

pub recording_more : (es rest next : List Struct) (rows after : List BlockRow) (n over : ℕ) → Recording es rest rows
    → Extends rest n over
    → after ≡ rows ++ (record { count = n; from = (entry_at rest 0).ready; end = over } ∷ [])
    → next ≡ drop n rest → Recording es next after
unfolding block_end
recording_more es rest next rows after n over g e put on =
    let first : Block = record { from = (entry_at rest 0).ready; work = e.work; members = map meant (take n rest) } in
    let row : BlockRow = record { count = n; from = (entry_at rest 0).ready; end = over } in
    let same : row ≡ row_of first =
    row_same n (entry_at rest 0).ready over (length first.members) first.from (block_end desk_end first)
    (sym (length-map (take n rest) meant ∙ length-take-le n rest e.within)) refl e.ends in
    record {
      listed = rw on (listed_rest rest n g.listed e.within);
      few = omega (arith, g.few, e.some_one, e.within, ap length put, ap length on, length_push rows row, length-drop n rest);
      are =
          ap (λ (l : List BlockRow). l ++ rows_of next) put
          ∙ append_assoc rows (row ∷ []) (rows_of next)
          ∙ ap (λ (l : List BlockRow). rows ++ l)
          (ap (λ (r : BlockRow). r ∷ rows_of next) same ∙ ap (λ (l : List Struct). row_of first ∷ rows_of l) on
          ∙ sym (ap (map row_of) e.cuts))
          ∙ g.are;
    }

pub recording_end : (es rest : List Struct) (rows : List BlockRow) → Recording es rest rows → length rest ≡ 0
    → rows ≡ rows_of es
unfolding cut_in_order
recording_end es [] rows g h = sym (append-nil rows) ∙ g.are
recording_end es (e ∷ rest) rows g h = absurd (omega arith)
