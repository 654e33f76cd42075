-- What code keeps, as values.
use Rattle.std.specs.Prelude.{map}
use Rattle.t1_dsc.specs.{declared.lines.Line.{Line as CodeLine}, declared.parts.PageLines.{PageLines as CodePageLines}, declared.parts.Parts.{Parts as CodeParts}}
use Rattle.t1_dsc.specs.{declared.pages.Frame.{Frame as CodeFrame}, Structure.{Line}, Parts.{PageLines, Parts}, Joining.{Frame}}

-- a line of borrowed bytes
abbrev pub line_view : CodeLine → Line
line_view l = record { text = l.text.now; role = l.role }

-- a page of borrowed lines
abbrev pub page_view : CodePageLines → PageLines
page_view p = record { own = map line_view p.own.now; body = map line_view p.body.now }

-- parts of borrowed lines
abbrev pub parts_view : CodeParts → Parts
parts_view p = record { head = map line_view p.head.now; pages = map page_view p.pages.items; trailer = map line_view p.trailer.now }

-- a frame of borrowed bytes
abbrev pub frame_view : CodeFrame → Frame
frame_view f = record { head = f.head.now; tail = f.tail.now }
