-- What a session keeps from line to line. Assumes nothing: these are definitions.
use Rattle.std.specs.Prelude.{ℕ, ◌+◌, ◌*◌, ◌≤◌, ◌≡◌, List, length, take}
use Rattle.meaning.specs.Outcome.{Machine}
use Rattle.monitor.specs.Calls.{machine}
use Rattle.transcript.specs.Output.{values_asked}
use Rattle.session.specs.declared.Session.{Session}
use Rattle.session.specs.declared.Lent.{Lent}

-- the sizes and the rule fit the tables: C is at most 512, and the rule has at most 65 rows
pub record Sound (s : Session) : Type 0 where
  pub nodes_few : s.c ≤ 512
  pub rows_few : s.rows ≤ 585

-- the tables have room for the largest sizes
pub record Long (rows nodes values work : List ℕ) : Type 0 where
  pub rows_long : length rows ≡ 585
  pub nodes_long : length nodes ≡ 1536
  pub values_long : length values ≡ 4092
  pub work_long : length work ≡ 9216

-- as much of each table as the sizes and the rule ask for: there is room for it
pub record Sized (s : Session) (p : Lent) : Type 0 where
  pub rows_are : p.rows ≡ s.rows
  pub nodes_are : p.nodes ≡ 3 * s.c
  pub values_are : p.values ≡ values_asked s.k
  pub work_is : p.work ≡ 16 * s.c + 1024
  pub rows_few : p.rows ≤ 585
  pub nodes_few : p.nodes ≤ 1536
  pub values_few : p.values ≤ 4092
  pub work_few : p.work ≤ 9216

-- the parts of the tables that the sizes ask for, with the state
unfoldable pub machine_of : Session → List ℕ → List ℕ → List ℕ → Machine
machine_of s nodes values work =
    machine s.state (take (3 * s.c) nodes) (take (values_asked s.k) values) (take (16 * s.c + 1024) work)
