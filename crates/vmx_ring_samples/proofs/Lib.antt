mod Printing
mod Adding
