use Rattle.std.proofs.Common.{◌++◌, map}
use Rattle.t1_dsc.{specs.{Joining.{pages_bytes}, Views.{page_view, frame_view}}, proofs.WriteLoops.{Paging}}
use Rattle.t1_dsc.proofs.pages.push_pages.Given as goal

abbrev pub invariant-pages : goal.invariant-pages
invariant-pages l =
    Paging l.start (frame_view l.frame) page_view l.pages l.first
    (l.fn.out.items ++ pages_bytes l.start (frame_view l.frame) l.first (map page_view l.pages)) l.page-index l.n l.out.items
