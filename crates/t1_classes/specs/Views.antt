-- Files and groups of them, as code keeps them.
use Rattle.std.specs.{Prelude.{ℕ, List, map}, Borrow.{Bor}, Global.{Vec}}
use Rattle.t1_classes.specs.{declared.fitting.Fitted.{Fitted}, Partition.{File, Fit}}

-- the bytes of files that are lent
abbrev pub lent : List (Bor (List ℕ)) → List File
lent files = map (λ f. f.now) files

-- the groups of a list of vectors
abbrev pub group_lists : List (Vec (Bor (List ℕ))) → List (List File)
group_lists groups = map (λ g. lent g.items) groups

-- a fit
abbrev pub fit_view : Fitted → Fit
fit_view f = record { group = lent f.group.items; left = lent f.left.items }
